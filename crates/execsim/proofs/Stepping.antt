-- How the machine follows settling, steps and events.
use Rattle.std.proofs.Common.{◌≡◌, ℕ, suc, ◌+◌, ◌<◌, List, [], ◌∷◌, ◌++◌, length, take, get_or, true, false, Option, None, Some, refl, ap, sym, ◌∙◌, subst, add-one, codes, if◌then◌else◌}
use Rattle.std.proofs.lemmas.List.{take_more}
use Rattle.execlist.specs.Disciplines.{by_arrival, by_priority}
use Rattle.exectrace.specs.{Trace.Value, Trace.Done}
use Rattle.exectrace.specs.Trace as trace
use Rattle.script.specs.{declared.event.Event.Event, declared.word.Word.Word, declared.word.Word.TheVariants.Requests, declared.word.requests.RequestWord.RequestWord}
use Rattle.scheduler.specs.{Schedule.task_name, Schedule.leaves, declared.Switch.Switch as Choice, Dispatch.switch_of, Dispatch.rescheduled, Dispatch.added}
use Rattle.scheduler.specs.declared.Switch.TheVariants as switch
use Rattle.softint.specs.{declared.source.Source.Source, declared.source.Source.TheVariants.Vertb}
use Rattle.execmodel.specs.Step.{announced, switches, settle, does, does_word, ends, call_step, task_step, softint_or_task_step, step_action, acts, step, steps, request, tick, ticks, started, all_added, starts, event, events}
use Rattle.execmodel.specs.{State.Call, State.Scripts, State.State, State.quiet, State.andthen, State.program_of, State.on_schedule, State.on_memory, State.on_timer, State.on_pending, State.unless_stopped, Calls.next_call, Interrupts.interrupts, Interrupts.runs_softint, Pending.caused_no_more, Pending.with_latch_of, Requests.does_requests, Requests.finishes_set}
use Rattle.timerdev.specs.Timing.{clock_ticked}
use Rattle.execsim.specs.{Actions.running_task_step, Actions.softint_body, Actions.softint_seen, Agreement.Seen, Agreement.Follows, Agreement.FollowsWhileGood, Agreement.Moves}
use Rattle.execsim.proofs.Following.{andthen-assoc, andthen-quiet, andthen-second, reads_schedule, reads_scripts, reads_stopped, moves_schedule, moves_memory, moves_latch, moves_taken_off, moves_nowhere, moves_then, follows_as, follows_nothing, follows_saying, follows_change, follows_then, follows_nothing_yet, while_good_as, while_good_then}
use Rattle.execsim.proofs.{Ordering.by_test, Ordering.switch_of-in_order, Ordering.rescheduled-in_order, Ordering.added-in_order, Ordering.leaves-in_order, Serving.softint_same}
use Rattle.exectrace.specs.Hearing.{Hearing}

-- Settle

pub switches_as : {H : Hearing} {m n o : Seen} {a b : H.Told} (choice : Option Choice) → choice ≡ switch_of by_priority m.schedule
    → n ≡ record m { schedule = rescheduled by_priority m.schedule } → Follows H (announced choice) n o a b → Follows H switches m o a b
unfolding switches
switches_as {H} {m} choice due is follows = follows_as
    {g = λ s. announced choice (on_schedule (rescheduled by_arrival) s)}
    (λ s e. ap (λ c. announced c (on_schedule (rescheduled by_arrival) s))
    (sym (switch_of-in_order s.schedule) ∙ ap (switch_of by_priority) (sym e.schedule) ∙ sym due))
    (follows_change (moves_schedule (rescheduled by_arrival) (rescheduled by_priority) rescheduled-in_order is) follows)

pub announces_none : {H : Hearing} (m : Seen) (t : H.Told) → Follows H (announced None) m m t t
announces_none m t = follows_nothing m t

pub settle_stopped : {H : Hearing} {m : Seen} (t : H.Told) → m.stopped ≡ true → Follows H settle m m t t
unfolding settle
settle_stopped {H} {m} t stopped = follows_as {g = quiet}
    (λ s e. let same : s.stopped ≡ true = reads_stopped stopped s e in rw same refl) (follows_nothing m t)

pub settle_going : {H : Hearing} {m n : Seen} {a b : H.Told} → m.stopped ≡ false → Follows H (andthen interrupts (unless_stopped switches)) m n a b → Follows H settle m n a b
unfolding settle
settle_going going follows = follows_as {g = andthen interrupts (unless_stopped switches)}
    (λ s e. let same : s.stopped ≡ false = reads_stopped going s e in rw same refl) follows

-- Step

-- a call on requests, and then those that wait for system time, if the call set it
pub asks_and_sets : {H : Hearing} {m n o : Seen} {a b c : H.Told} (is : RequestWord) (t : ℕ) (call : Call) → call.word ≡ Requests is
    → Follows H (does_requests is t call) m n a b → Follows H finishes_set n o b c → Follows H (does t call) m o a c
unfolding does
asks_and_sets is t call word asks sets = follows_as {g = andthen (does_requests is t call) finishes_set}
    (λ s e. ap (λ (w : Word). does_word w t call s) word) (follows_then asks sets)

pub ends_as : {H : Hearing} {m n : Seen} {a b : H.Told} (t : ℕ) → n ≡ record m { schedule = leaves t m.schedule }
    → H.hears a b ((trace.Call (task_name m.schedule t) (codes "RemTask") (Value 0 ∷ []) Done) ∷ []) → Follows H (ends t) m n a b
unfolding ends
ends_as {H} {m} t is puts = follows_saying _
    (λ s e. ap (λ name. trace.Call name (codes "RemTask") (Value 0 ∷ []) Done) (reads_schedule (λ y. task_name y t) (λ y. refl) refl s e)) puts
    (moves_schedule (leaves t) (leaves t) (leaves-in_order t) is)

-- what runs does its next call
pub running_as : {H : Hearing} {m n : Seen} {a b : H.Told} (running : Option ℕ) → m.schedule.running ≡ running → Follows H (task_step running) m n a b → Follows H running_task_step m n a b
running_as running runs follows = follows_as {g = task_step running}
    (λ s e. ap (λ r. task_step r s) (reads_schedule (λ y. y.running) (λ y. refl) runs s e)) follows

pub task_step_as : {H : Hearing} {m n : Seen} {a b : H.Told} (t : ℕ) (call : Option Call) → next_call t m.scripts ≡ call
    → Follows H (call_step t call) m n a b → Follows H (task_step (Some t)) m n a b
task_step_as t call is follows = follows_as {g = call_step t call}
    (λ s e. ap (λ c. call_step t c s) (reads_scripts (next_call t) is s e)) follows

pub running_none : {H : Hearing} {m : Seen} (t : H.Told) → m.schedule.running ≡ None → Follows H running_task_step m m t t
running_none {H} {m} t none = running_as None none (follows_nothing m t)

-- a software interrupt runs, or else what runs does its next call
pub acting_softint : {H : Hearing} {m n o : Seen} {a b : H.Told} (i : ℕ) → Some i ≡ softint_seen m → n ≡ record m { pending = caused_no_more i m.pending }
    → Follows H (softint_body i) n o a b → Follows H step_action m o a b
unfolding step_action runs_softint
acting_softint i is next follows = follows_as {g = λ s. softint_body i (on_pending (caused_no_more i) s)}
    (λ s e. ap (λ (x : Option ℕ). softint_or_task_step x s) (softint_same s e ∙ sym is)) (follows_change (moves_taken_off i next) follows)

pub acting_task : {H : Hearing} {m n o : Seen} {a b : H.Told} → None ≡ softint_seen m → n ≡ record m { pending = m.pending }
    → Follows H running_task_step n o a b → Follows H step_action m o a b
unfolding step_action
acting_task {H} {m} {n} {o} {a} {b} none next follows =
    let here : Follows H running_task_step m o a b = subst (λ (x : Seen). Follows H running_task_step x o a b) next follows in
    follows_as {g = running_task_step}
    (λ s e. ap (λ (x : Option ℕ). softint_or_task_step x s) (softint_same s e ∙ sym none)) here

pub acts_stopped : {H : Hearing} {m : Seen} (t : H.Told) → m.stopped ≡ true → Follows H acts m m t t
unfolding acts
acts_stopped {H} {m} t stopped = follows_as {g = quiet}
    (λ s e. let same : s.stopped ≡ true = reads_stopped stopped s e in rw same refl) (follows_nothing m t)

pub acts_going : {H : Hearing} {m n : Seen} {a b : H.Told} → m.stopped ≡ false → Follows H step_action m n a b → Follows H acts m n a b
unfolding acts
acts_going going follows = follows_as {g = step_action}
    (λ s e. let same : s.stopped ≡ false = reads_stopped going s e in rw same refl) follows

pub step_as : {H : Hearing} {m n o : Seen} {a b c : H.Told} → Follows H acts m n a b → Follows H settle n o b c → Follows H step m o a c
unfolding step
step_as acted settled = follows_then acted settled

pub no_steps : {H : Hearing} (m : Seen) (t : H.Told) → FollowsWhileGood H (steps 0) m m t t
unfolding steps
no_steps m t = follows_nothing_yet m t

-- Run

module _ {m : Seen} (asks : Source) where
  pub request_stopped : {H : Hearing} (t : H.Told) → m.stopped ≡ true → Follows H (request asks) m m t t
  unfolding request
  request_stopped t stopped = follows_as {g = quiet}
      (λ s e. let same : s.stopped ≡ true = reads_stopped stopped s e in rw same refl) (follows_nothing m t)

  pub request_going : {H : Hearing} {n o : Seen} {a b : H.Told} → m.stopped ≡ false → n ≡ record m { pending = with_latch_of asks true m.pending }
      → Follows H settle n o a b → Follows H (request asks) m o a b
  unfolding request
  request_going going is follows = follows_as {g = λ s. settle (on_pending (with_latch_of asks true) s)}
      (λ s e. let same : s.stopped ≡ false = reads_stopped going s e in rw same refl) (follows_change (moves_latch asks true is) follows)

pub tick_stopped : {H : Hearing} {m : Seen} (t : H.Told) → m.stopped ≡ true → Follows H tick m m t t
unfolding tick
tick_stopped {H} {m} t stopped = follows_as {g = quiet}
    (λ s e. let same : s.stopped ≡ true = reads_stopped stopped s e in rw same refl) (follows_nothing m t)

pub tick_going : {H : Hearing} {m n o : Seen} {a b : H.Told} → m.stopped ≡ false → n ≡ record m { memory = on_timer clock_ticked m.memory }
    → Follows H (request Vertb) n o a b → Follows H tick m o a b
unfolding tick
tick_going going is follows = follows_as {g = λ s. request Vertb (on_memory (on_timer clock_ticked) s)}
    (λ s e. let same : s.stopped ≡ false = reads_stopped going s e in rw same refl)
    (follows_change (moves_memory (on_timer clock_ticked) (on_timer clock_ticked) (λ y. refl) is) follows)

pub no_ticks : {H : Hearing} (m : Seen) (t : H.Told) → FollowsWhileGood H (ticks 0) m m t t
unfolding ticks
no_ticks m t = follows_nothing_yet m t

suc_ticks : {H : Hearing} {m n o : Seen} {a b c : H.Told} (i : ℕ) → FollowsWhileGood H (ticks i) m n a b → FollowsWhileGood H tick n o b c → FollowsWhileGood H (ticks (suc i)) m o a c
unfolding ticks
suc_ticks i before last = while_good_then before last

pub more_ticks : {H : Hearing} {m n o : Seen} {a b c : H.Told} (i : ℕ) → FollowsWhileGood H (ticks i) m n a b → FollowsWhileGood H tick n o b c → FollowsWhileGood H (ticks (i + 1)) m o a c
more_ticks i before last = rw add-one (suc_ticks i before last)

pub none_added : (scripts : Scripts) (m : Seen) → Moves (on_schedule (all_added scripts 0)) m m
unfolding all_added
none_added scripts m = moves_nowhere m

suc_added : {m n o : Seen} (scripts : Scripts) (i : ℕ) → Moves (on_schedule (all_added scripts i)) m n → Moves (on_schedule (started scripts i)) n o
    → Moves (on_schedule (all_added scripts (suc i))) m o
unfolding all_added
suc_added scripts i before last = moves_then before last

pub more_added : {m n o : Seen} (scripts : Scripts) (i : ℕ) → Moves (on_schedule (all_added scripts i)) m n → n.scripts ≡ scripts
    → o ≡ record n { schedule = (if (program_of n.scripts i).starts then added by_priority i n.schedule else n.schedule) }
    → Moves (on_schedule (all_added scripts (i + 1))) m o
more_added {n = n} scripts i before same is = rw add-one (suc_added scripts i before
    (moves_schedule (started scripts i) (λ y. if (program_of scripts i).starts then added by_priority i y else y)
    (λ y. by_test (program_of scripts i).starts (added by_arrival i y) y _ _ (added-in_order i y) refl)
    (is ∙ ap (λ (x : Scripts). record n { schedule = (if (program_of x i).starts then added by_priority i n.schedule else n.schedule) }) same)))

pub starts_as : {H : Hearing} {m n o : Seen} {a b : H.Told} → Moves (on_schedule (all_added m.scripts (length m.scripts.programs))) m n → Follows H settle n o a b → Follows H starts m o a b
unfolding starts
starts_as {H} {m} moves follows = follows_as
    {g = λ s. settle (on_schedule (all_added m.scripts (length m.scripts.programs)) s)}
    (λ s e. ap (λ (scripts : Scripts). settle (on_schedule (all_added scripts (length scripts.programs)) s)) (sym e.scripts))
    (follows_change moves follows)

-- one event more at the end
events-more : (list : List Event) (e : Event) (s : State) → events (list ++ e ∷ []) s ≡ andthen (events list) (event e) s
unfolding events andthen
events-more [] e s = andthen-quiet (event e s)
events-more (d ∷ list) e s =
    andthen-second (event d) (events (list ++ e ∷ [])) (andthen (events list) (event e)) s (events-more list e)
    ∙ andthen-assoc (event d) (events list) (event e) s

pub no_events : {H : Hearing} (m : Seen) (t : H.Told) → FollowsWhileGood H (events []) m m t t
unfolding events
no_events m t = follows_nothing_yet m t

pub more_events : {H : Hearing} {m n o : Seen} {a b c : H.Told} (list : List Event) (k : ℕ) (d : Event) → k < length list
    → FollowsWhileGood H (events (take k list)) m n a b → FollowsWhileGood H (event (get_or list k d)) n o b c
    → FollowsWhileGood H (events (take (k + 1) list)) m o a c
more_events list k d within before last = while_good_as {g = andthen (events (take k list)) (event (get_or list k d))}
    (λ s e. ap (λ (l : List Event). events l s) (take_more list k d within) ∙ events-more (take k list) (get_or list k d) s)
    (while_good_then before last)
