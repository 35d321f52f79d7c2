-- A machine whose commands come in time runs as the one whose bodies are whole from the start.
use Rattle.std.proofs.Common.{inl, inr, pos, replicate, slice_index_or, ◌≤◌, ◌≡◌, ◌≢◌, ◌∙◌, ℕ, zero, suc, ◌<◌, Bool, true, false, ◌||◌, List, [], ◌∷◌, ◌++◌, Option, Some, map, refl, sym, ap, subst, arith, nat_eq}
use Rattle.memlist.proofs.Answered.{nat_eq-same}
use Rattle.script.specs.declared.event.Event.TheVariants.{Run, Tick, Irq}
use Rattle.script.specs.{Machines.IsMachine, declared.event.Event.Event, Commands.CommandData, File.MachineData, File.TaskData}
use Rattle.scheduler.specs.Schedule.{Schedule, unstarted}
use Rattle.execmodel.specs.State.{Program, State, Outcome, quiet, andthen, unless_stopped, no_program, on_schedule, new_program, booted}
use Rattle.execmodel.specs.Feeding.{altered, longer, fed_to, fed, at_end, StepsCommuteWithFeeding, OthersCommuteWithFeeding, AFedCommandIsNext, BodiesRunInParts, Input, Comes, Feeds, inputs, fed_task, whole, events_among, is_fed, StaysWithin, ComeInTime, FedMachinesRunAsWhole}
use Rattle.execmodel.specs.{Bodies.body_step, Bodies.runs_body, Step.settle, Step.started, Step.all_added, Pending.next_softint, Step.step, Step.steps, Step.tick, Step.ticks, Step.starts, Step.event, Step.events, Step.run}
use Rattle.execmodel.proofs.{FedScripts.fed_last, FedScripts.altered_count, FedWords.Commutes, FedWords.fed_andthen, FedActions.fed_step, FedActions.fed_request, FedActions.fed_tick, FedActions.fed_start, FedActions.fed_at_end, Moments.joined, Moments.next_same}
use Rattle.std.proofs.Common.{length, if◌then◌else◌, None}
use Rattle.std.proofs.lemmas.List.{length-replicate}
use Rattle.scheduler.specs.Joining.{joined_by}
use Rattle.execmodel.specs.Feeding.{with_new, and_new, if_no_call, without_call, without_call_or_softint, Adds, EventsCommuteWithNewTasks}
use Rattle.std.proofs.lemmas.Bool.{cases_lt}
use Rattle.execlist.specs.Disciplines.{by_arrival}
use Rattle.taskq.specs.declared.TaskState.TheVariants.{Absent}
use Rattle.signals.specs.Signals.{initial_sets}
use Rattle.forbid.specs.Nesting.{initial_nesting}
use Rattle.scheduler.specs.Dispatch.{added}
use Rattle.execmodel.specs.Semaphores.{waiters_of}
use Rattle.execmodel.proofs.NewTask.{status_same}
use Rattle.execmodel.proofs.NewWords.{more, grown, and_grown, Sized, Both}
use Rattle.execmodel.proofs.NewActions.{going_by, event_with, softint_same, next_same as next_call_same, out_there, settle_with, added_with}
use Rattle.execmodel.proofs.{Agreement.untouched, FedScripts.fed_count, Heaps.true_is_not_false, Stopped.event_stopped, Stopped.step_stopped, Stretches.of_event, Stretches.of_starts, Stretches.of_adding, WaitingLaw.IsSoundState, WaitingLaw.Waits, WaitingLaw.waits, WaitingLaw.clocked, WaitingLaw.as_many, WaitingLaw.booted_sound}

pub steps_commute_with_feeding : StepsCommuteWithFeeding
steps_commute_with_feeding t command s apart = fed_step t command s apart

pub others_commute_with_feeding : OthersCommuteWithFeeding
others_commute_with_feeding = record {
  ticks = fed_tick;
  requests = λ asks t command s. fed_request t command asks s;
  starts = fed_start;
}

pub a_fed_command_is_next : AFedCommandIsNext
a_fed_command_is_next t command s ends = fed_last t command s.scripts ends

-- ---- servings in parts

nothing_first : (next : State → Outcome) (s : State) → andthen quiet next s ≡ next s
unfolding andthen
nothing_first next s = refl

pub bodies_run_in_parts : BodiesRunInParts
unfolding runs_body
bodies_run_in_parts name [] more s = sym (nothing_first (runs_body name more) s)
bodies_run_in_parts name (command ∷ some) more s =
    next_same (unless_stopped (body_step name command)) _ (andthen (runs_body name some) (runs_body name more)) s (bodies_run_in_parts name some more)
    ∙ sym (joined (unless_stopped (body_step name command)) (runs_body name some) (runs_body name more) s)

-- ---- events

fed_steps : (t : ℕ) (command : CommandData) (n : ℕ) (s : State) → ((k : ℕ) → k < n → at_end (steps k s).state ≢ Some t) → Commutes t command (steps n) s
unfolding steps
fed_steps t command zero s within = refl
fed_steps t command (suc n) s within =
    fed_andthen t command (steps n) step s (fed_steps t command n s (λ k less. within k (omega (arith, less))))
    (fed_step t command (steps n s).state (within n (omega arith)))

fed_ticks : (t : ℕ) (command : CommandData) (n : ℕ) (s : State) → Commutes t command (ticks n) s
unfolding ticks
fed_ticks t command zero s = refl
fed_ticks t command (suc n) s = fed_andthen t command (ticks n) tick s (fed_ticks t command n s) (fed_tick t command (ticks n s).state)

fed_event : (t : ℕ) (command : CommandData) (e : Event) (s : State) → StaysWithin t e s → Commutes t command (event e) s
unfolding event
fed_event t command (Run n) s within = fed_steps t command n s within
fed_event t command (Tick n) s within = fed_ticks t command n s
fed_event t command (Irq asks) s within = fed_request t command asks s

-- ---- a new task

-- a task of which nothing is known
abbrev no_task : TaskData
no_task = record { name = []; pri = pos 0; start = false; code = [] }

abbrev count_of_tasks : State → ℕ
count_of_tasks s = length s.schedule.queue.states

-- what is known of a state between two inputs: all holds of it that holds in every state of a run, and, if it goes on,
-- there are as many of each as there are tasks
record IsReady (s : State) : Type 0 where
  sound : IsSoundState s
  sized : s.stopped ≡ false → Sized (count_of_tasks s) no_task s

resized : (n : ℕ) (s : State) → Sized n no_task s → Sized (count_of_tasks s) no_task s
resized n s sized =
    let same = sym sized.0.states in (
      record {
        states = refl;
        pris = sized.0.pris ∙ same;
        names = sized.0.names ∙ same;
        signals = sized.0.signals ∙ same;
        nestings = sized.0.nestings ∙ same;
      },
      sized.1 ∙ same,
    )

event_going : (e : Event) (s : State) → (event e s).state.stopped ≡ false → s.stopped ≡ false
event_going e s going = going_by (event e) s (event_stopped e s) going

event_ready : (e : Event) (s : State) → IsReady s → IsReady (event e s).state
event_ready e s ready = record {
  sound = (of_event Waits waits clocked e s ready.sound).0;
  sized = λ going.
      resized (count_of_tasks s) (event e s).state
      (event_with (count_of_tasks s) no_task e s ready.sound (ready.sized (event_going e s going)) going).sized;
}

pub fed_sound : (t : ℕ) (command : CommandData) (s : State) → IsSoundState s → IsSoundState (fed t command s)
fed_sound t command s sound = record {
  tidy = record { formed = sound.tidy.formed; order = sound.tidy.order };
  idle = sound.idle;
  counted = fed_count t command s.scripts ∙ sound.counted;
  roomy = sound.roomy;
  agrees = sound.agrees;
}

fed_ready : (t : ℕ) (command : CommandData) (s : State) → IsReady s → IsReady (fed t command s)
fed_ready t command s ready = record {
  sound = fed_sound t command s ready.sound;
  sized = λ going. let sized = ready.sized going in (sized.0, fed_count t command s.scripts ∙ sized.1);
}

-- one more
one_longer : {A : Type 0} (x : A) (xs : List A) → length (xs ++ x ∷ []) ≡ suc (length xs)
one_longer x [] = refl
one_longer x (y ∷ xs) = ap suc (one_longer x xs)

pub new_sound : (task : TaskData) (s : State) → IsSoundState s → IsSoundState (with_new task s)
new_sound task s sound =
    let more = one_longer Absent s.schedule.queue.states in
    let states = joined_by task.pri task.name s.schedule in record {
      tidy = record { formed = sound.tidy.formed; order = sound.tidy.order };
      idle = sound.idle;
      counted = one_longer (new_program task) s.scripts.programs ∙ ap suc sound.counted ∙ sym more;
      roomy = ap suc sound.roomy ∙ sym more;
      agrees = λ t. untouched t s.schedule states (λ a. waiters_of a s.memory.heap) (λ a. waiters_of a s.memory.heap)
          (status_same (count_of_tasks s) task.pri task.name t s.schedule) refl refl (λ a. refl) (sound.agrees t);
    }

new_ready : (task : TaskData) (s : State) → s.stopped ≡ false → IsReady s → IsReady (with_new task s)
new_ready task s going ready =
    let sized = ready.sized going in
    let n = count_of_tasks s in
    let more = one_longer Absent s.schedule.queue.states in record {
      sound = new_sound task s ready.sound;
      sized = λ still. resized (suc n) (with_new task s) (
        record {
          states = more;
          pris = one_longer task.pri s.schedule.queue.pris ∙ ap suc sized.0.pris;
          names = one_longer task.name s.schedule.queue.names ∙ ap suc sized.0.names;
          signals = one_longer initial_sets s.schedule.signals ∙ ap suc sized.0.signals;
          nestings = one_longer initial_nesting s.schedule.nestings ∙ ap suc sized.0.nestings;
        },
        one_longer (new_program task) s.scripts.programs ∙ ap suc sized.1,
      );
    }

-- how many tasks there are
grown_is : (n : ℕ) (task : TaskData) (s : State) → s.memory.tasks ≡ n → with_new task s ≡ grown n task s
grown_is n task s e = ap (λ k. record (with_new task s) { memory = record s.memory { tasks = suc k } }) e

-- an outcome of a machine with a new task, by how many tasks there are
by_count : (n : ℕ) (task : TaskData) (o : Outcome) → IsSoundState o.state → Sized n no_task o.state → and_grown n task o ≡ and_new task o
by_count n task o sound sized = ap (λ s. record o { state = s }) (sym (grown_is n task o.state (sound.roomy ∙ sized.0.states)))

new_event : (task : TaskData) (e : Event) (s : State) → IsReady s → (event e s).state.stopped ≡ false → event e (with_new task s) ≡ and_new task (event e s)
new_event task e s ready going =
    let n = count_of_tasks s in
    let both = event_with n task e s ready.sound (ready.sized (event_going e s going)) going in
    ap (event e) (grown_is n task s ready.sound.roomy) ∙ both.same ∙ by_count n task (event e s) (event_ready e s ready).sound both.sized

-- ---- commands that are fed later, and tasks that are added later

-- a machine in which all commands are fed, and all tasks added, at once
abbrev all_done : List Input → State → State
all_done [] s = s
all_done (Comes e ∷ rest) s = all_done rest s
all_done (Feeds t command ∷ rest) s = all_done rest (fed t command s)
all_done (Adds task ∷ rest) s = all_done rest (with_new task s)

abbrev and_all_done : List Input → Outcome → Outcome
and_all_done list o = record o { state = all_done list o.state }

-- a task is added
abbrev has_new : List Input → Bool
has_new [] = false
has_new (Adds task ∷ rest) = true
has_new (_ ∷ rest) = has_new rest

-- no step of the event finds a task at the end of its body that is fed later
abbrev StaysWithinAll : List Input → Event → State → Type 0
StaysWithinAll list e s = (t : ℕ) → is_fed t list ≡ true → StaysWithin t e s

still_within : (u : ℕ) (command : CommandData) (t : ℕ) (e : Event) (s : State) → StaysWithin u e s → StaysWithin t e s → StaysWithin t e (fed u command s)
still_within u command t (Run n) s grows within = λ k less.
    let r = (steps k s).state in
    subst (λ (x : Option ℕ). x ≢ Some t)
    (sym (ap (λ (o : Outcome). at_end o.state) (fed_steps u command k s (λ j fewer. grows j (omega (arith, less, fewer)))) ∙ fed_at_end u command r (grows k less)))
    (within k less)
still_within u command t (Tick n) s grows within = tt
still_within u command t (Irq asks) s grows within = tt

-- fewer steps go on too
fewer_going : (n k : ℕ) (s : State) → k ≤ n → (steps n s).state.stopped ≡ false → (steps k s).state.stopped ≡ false
unfolding steps andthen
fewer_going zero k s most going = let e : k ≡ zero = omega (arith, most) in ap (λ j. (steps j s).state.stopped) e ∙ going
fewer_going (suc n) k s most going =
    elim (cases_lt k (suc n)) [
      | inl less ↦ fewer_going n k s (omega (arith, less)) (going_by step (steps n s).state (λ is. step_stopped (steps n s).state is) going)
      | inr other ↦ let e : k ≡ suc n = omega (arith, most, other) in ap (λ j. (steps j s).state.stopped) e ∙ going
    ]

-- the same task is found at the end of its body
new_at_end : (task : TaskData) (s : State) → IsReady s → s.stopped ≡ false → at_end (with_new task s) ≡ at_end s
unfolding at_end
new_at_end task s ready going =
    let n = count_of_tasks s in
    let sized = ready.sized going in
    ap (λ (b : Bool). if b then None else without_call_or_softint (next_softint (with_new task s)) (with_new task s)) going
    ∙ ap (λ softint. without_call_or_softint softint (with_new task s))
    (ap next_softint (grown_is n task s ready.sound.roomy) ∙ softint_same n task s)
    ∙ by_softint (next_softint s) (by_running s.schedule.running (out_there n task s ready.sound sized).running)
    ∙ sym (ap (λ (b : Bool). if b then None else without_call_or_softint (next_softint s) s) going)
  where
    by_running : (running : Option ℕ) → running ≢ Some (count_of_tasks s)
        → without_call running (with_new task s).scripts ≡ without_call running s.scripts
    by_running None other = refl
    by_running (Some t) other =
        ap (λ call. if_no_call call t)
        (next_call_same (count_of_tasks s) task t s.scripts (ready.sized going).1 (λ here. other (ap Some here)))

    by_softint : (softint : Option ℕ) → without_call s.schedule.running (with_new task s).scripts ≡ without_call s.schedule.running s.scripts
        → without_call_or_softint softint (with_new task s) ≡ without_call_or_softint softint s
    by_softint None same = same
    by_softint (Some i) same = refl

within_new : (task : TaskData) (t : ℕ) (e : Event) (s : State) → IsReady s → (event e s).state.stopped ≡ false → StaysWithin t e s
    → StaysWithin t e (with_new task s)
unfolding event
within_new task t (Run n) s ready going within = λ k less.
    let r = (steps k s).state in
    let on = fewer_going n k s (omega (arith, less)) going in
    subst (λ (x : Option ℕ). x ≢ Some t)
    (sym (ap (λ (o : Outcome). at_end o.state) (new_event task (Run k) s ready on) ∙ new_at_end task r (event_ready (Run k) s ready) on))
    (within k less)
within_new task t (Tick n) s ready going within = tt
within_new task t (Irq asks) s ready going within = tt

either_true : (a b : Bool) → b ≡ true → (a || b) ≡ true
either_true true b e = refl
either_true false b e = e

first_true : (a b : Bool) → a ≡ true → (a || b) ≡ true
first_true a b e = ap (λ c. c || b) e

all_commute : (list : List Input) (e : Event) (s : State) → IsReady s → StaysWithinAll list e s → (has_new list ≡ true → (event e s).state.stopped ≡ false)
    → event e (all_done list s) ≡ and_all_done list (event e s)
all_commute [] e s ready within going = refl
all_commute (Comes other ∷ rest) e s ready within going = all_commute rest e s ready within going
all_commute (Feeds u command ∷ rest) e s ready within going =
    let grows = within u (first_true (nat_eq u u) (is_fed u rest) (nat_eq-same u)) in
    let same = fed_event u command e s grows in
    all_commute rest e (fed u command s) (fed_ready u command s ready)
    (λ t later. still_within u command t e s grows (within t (either_true (nat_eq u t) (is_fed t rest) later)))
    (λ new. ap (λ (o : Outcome). o.state.stopped) same ∙ going new)
    ∙ ap (and_all_done rest) same
all_commute (Adds task ∷ rest) e s ready within going =
    let on = going refl in
    let same = new_event task e s ready on in
    all_commute rest e (with_new task s) (new_ready task s (event_going e s on) ready) (λ t later. within_new task t e s ready on (within t later))
    (λ new. ap (λ (o : Outcome). o.state.stopped) same ∙ on)
    ∙ ap (and_all_done rest) same

-- ---- one input after another

-- an outcome, and then another action
abbrev after : (State → Outcome) → Outcome → Outcome
after next a = let b = next a.state in record { state = b.state; lines = a.lines ++ b.lines; marks = a.marks ++ b.marks }

abbrev joined_to : Outcome → Outcome → Outcome
joined_to a b = record { state = b.state; lines = a.lines ++ b.lines; marks = a.marks ++ b.marks }

-- a machine to which a task is added later goes on until then
later_going : (list : List Input) (s : State) → ComeInTime list s → has_new list ≡ true → s.stopped ≡ false
later_going [] s in_time new = true_is_not_false (sym new)
later_going (Comes e ∷ rest) s in_time new = event_going e s (later_going rest (event e s).state in_time.1 new)
later_going (Feeds t command ∷ rest) s in_time new = later_going rest (fed t command s) in_time new
later_going (Adds task ∷ rest) s in_time new = in_time.0

inputs_are_events : (list : List Input) (s : State) → IsReady s → ComeInTime list s → inputs list s ≡ events (events_among list) (all_done list s)
unfolding inputs events andthen
inputs_are_events [] s ready in_time = refl
inputs_are_events (Feeds t command ∷ rest) s ready in_time = inputs_are_events rest (fed t command s) (fed_ready t command s ready) in_time
inputs_are_events (Adds task ∷ rest) s ready in_time =
    inputs_are_events rest (with_new task s) (new_ready task s in_time.0 ready) in_time.2
inputs_are_events (Comes e ∷ rest) s ready in_time =
    ap (joined_to (event e s)) (inputs_are_events rest (event e s).state (event_ready e s ready) in_time.1)
    ∙ sym (ap (after (events (events_among rest)))
    (all_commute rest e s ready in_time.0 (λ new. later_going rest (event e s).state in_time.1 new)))

-- ---- from the start

-- no task that is added starts with the machine
abbrev NoneStarts : List Input → Type 0
NoneStarts [] = Unit {0}
NoneStarts (Adds task ∷ rest) = (task.start ≡ false) × NoneStarts rest
NoneStarts (_ ∷ rest) = NoneStarts rest

none_starts : (list : List Input) (s : State) → ComeInTime list s → NoneStarts list
none_starts [] s in_time = tt
none_starts (Comes e ∷ rest) s in_time = none_starts rest (event e s).state in_time.1
none_starts (Feeds t command ∷ rest) s in_time = none_starts rest (fed t command s) in_time
none_starts (Adds task ∷ rest) s in_time = (in_time.1, none_starts rest (with_new task s) in_time.2)

last_one : {A : Type 0} (d x : A) (xs : List A) → slice_index_or (xs ++ x ∷ []) (length xs) d ≡ x
last_one d x [] = refl
last_one d x (y ∷ xs) = last_one d x xs

-- the new task is not added at the start
not_started : (task : TaskData) (s : State) (r : Schedule) → task.start ≡ false
    → started (more (count_of_tasks s) task s.scripts) (length s.scripts.programs) r ≡ r
not_started task s r e =
    ap (λ b. if b then added by_arrival (length s.scripts.programs) r else r)
    (ap (λ (p : Program). p.starts) (last_one no_program (new_program task) s.scripts.programs) ∙ e)

start_with : (task : TaskData) (s : State) → IsReady s → s.stopped ≡ false → task.start ≡ false → (starts s).state.stopped ≡ false
    → Both (count_of_tasks s) task (starts (grown (count_of_tasks s) task s)) (starts s)
unfolding starts all_added
start_with task s ready on e going =
    let n = count_of_tasks s in
    let sized = ready.sized on in
    let count = sized.1 in
    let many = length s.scripts.programs in
    let moves = added_with n task many s.scripts s.schedule count (let most : many ≤ n = omega (arith, count) in most) sized.0 in
    let r = on_schedule (all_added s.scripts many) s in
    let both = settle_with n task r (of_adding Waits waits many s (omega arith) ready.sound).0 (moves.fits, count) going in
    record {
      same = ap (λ (schedule : Schedule). settle (record (grown n task s) { schedule = schedule }))
          (ap (λ k. all_added (more n task s.scripts) k (joined_by task.pri task.name s.schedule)) (one_longer (new_program task) s.scripts.programs)
          ∙ not_started task s (all_added (more n task s.scripts) many (joined_by task.pri task.name s.schedule)) e ∙ moves.same)
          ∙ both.same;
      sized = both.sized;
    }

started_ready : (s : State) → IsReady s → s.stopped ≡ false → IsReady (starts s).state
started_ready s ready on = record {
  sound = (of_starts Waits waits s ready.sound).0;
  sized = λ going. resized (count_of_tasks s) (starts s).state (start_with no_task s ready on refl going).sized;
}

new_start : (task : TaskData) (s : State) → IsReady s → s.stopped ≡ false → task.start ≡ false → (starts s).state.stopped ≡ false
    → starts (with_new task s) ≡ and_new task (starts s)
new_start task s ready on e going =
    let n = count_of_tasks s in
    let both = start_with task s ready on e going in
    ap starts (grown_is n task s ready.sound.roomy) ∙ both.same ∙ by_count n task (starts s) (started_ready s ready on).sound both.sized

start_commutes : (list : List Input) (s : State) → IsReady s → s.stopped ≡ false → NoneStarts list → (has_new list ≡ true → (starts s).state.stopped ≡ false)
    → starts (all_done list s) ≡ and_all_done list (starts s)
start_commutes [] s ready on none going = refl
start_commutes (Comes e ∷ rest) s ready on none going = start_commutes rest s ready on none going
start_commutes (Feeds t command ∷ rest) s ready on none going =
    let same = fed_start t command s in
    start_commutes rest (fed t command s) (fed_ready t command s ready) on none (λ new. ap (λ (o : Outcome). o.state.stopped) same ∙ going new)
    ∙ ap (and_all_done rest) same
start_commutes (Adds task ∷ rest) s ready on none going =
    let same = new_start task s ready on none.0 (going refl) in
    start_commutes rest (with_new task s) (new_ready task s on ready) on none.1 (λ new. ap (λ (o : Outcome). o.state.stopped) same ∙ going refl)
    ∙ ap (and_all_done rest) same

-- ---- before the start

-- a part of each task that feeding keeps
map_altered : {A B : Type 0} (part : A → B) (n : ℕ) (f : A → A) (xs : List A) → ((x : A) → part (f x) ≡ part x) → map part (altered n f xs) ≡ map part xs
unfolding altered
map_altered part n f [] keeps = refl
map_altered part zero f (x ∷ xs) keeps = ap (λ y. y ∷ map part xs) (keeps x)
map_altered part (suc n) f (x ∷ xs) keeps = ap (λ ys. part x ∷ ys) (map_altered part n f xs keeps)

programs_altered : (n : ℕ) (command : CommandData) (tasks : List TaskData)
    → map new_program (altered n (fed_task command) tasks) ≡ altered n (longer command) (map new_program tasks)
unfolding altered
programs_altered n command [] = refl
programs_altered zero command (task ∷ tasks) = refl
programs_altered (suc n) command (task ∷ tasks) = ap (λ ps. new_program task ∷ ps) (programs_altered n command tasks)

booted_fed : (t : ℕ) (command : CommandData) (machine : MachineData)
    → booted (record machine { tasks = altered t (fed_task command) machine.tasks }) ≡ fed t command (booted machine)
unfolding booted fed_to
booted_fed t command machine =
    let count = altered_count t (fed_task command) machine.tasks in
    let pris = map_altered (λ (task : TaskData). task.pri) t (fed_task command) machine.tasks (λ task. refl) in
    let names = map_altered (λ (task : TaskData). task.name) t (fed_task command) machine.tasks (λ task. refl) in
    let programs = programs_altered t command machine.tasks in
    λ i. record (booted machine) {
      schedule = unstarted (count i) (pris i) (names i) machine.quantum;
      scripts = record (booted machine).scripts { programs = programs i };
      memory = record (booted machine).memory { tasks = count i };
    }

map_last : {A B : Type 0} (f : A → B) (xs : List A) (x : A) → map f (xs ++ x ∷ []) ≡ map f xs ++ f x ∷ []
map_last f [] x = refl
map_last f (y ∷ xs) x = ap (λ ys. f y ∷ ys) (map_last f xs x)

replicate_last : {A : Type 0} (n : ℕ) (x : A) → replicate (suc n) x ≡ replicate n x ++ x ∷ []
replicate_last zero x = refl
replicate_last (suc n) x = ap (λ xs. x ∷ xs) (replicate_last n x)

booted_new : (task : TaskData) (machine : MachineData) → booted (record machine { tasks = machine.tasks ++ task ∷ [] }) ≡ with_new task (booted machine)
unfolding booted
booted_new task machine =
    let many = length machine.tasks in
    let count = one_longer task machine.tasks in
    let states = ap (λ n. replicate n Absent) count ∙ replicate_last many Absent in
    let signals = ap (λ n. replicate n initial_sets) count ∙ replicate_last many initial_sets in
    let nestings = ap (λ n. replicate n initial_nesting) count ∙ replicate_last many initial_nesting in
    let pris = map_last (λ (task : TaskData). task.pri) machine.tasks task in
    let names = map_last (λ (task : TaskData). task.name) machine.tasks task in
    let programs = map_last new_program machine.tasks task in
    λ i. record (booted machine) {
      schedule = record (booted machine).schedule {
        queue = record (booted machine).schedule.queue { states = states i; pris = pris i; names = names i };
        signals = signals i;
        nestings = nestings i;
      };
      scripts = record (booted machine).scripts { programs = programs i };
      memory = record (booted machine).memory { tasks = count i };
    }

booted_whole : (list : List Input) (machine : MachineData) → booted (whole list machine) ≡ all_done list (booted machine)
booted_whole [] machine = refl
booted_whole (Comes e ∷ rest) machine = booted_whole rest machine
booted_whole (Feeds t command ∷ rest) machine =
    booted_whole rest (record machine { tasks = altered t (fed_task command) machine.tasks }) ∙ ap (all_done rest) (booted_fed t command machine)
booted_whole (Adds task ∷ rest) machine =
    booted_whole rest (record machine { tasks = machine.tasks ++ task ∷ [] }) ∙ ap (all_done rest) (booted_new task machine)

booted_going : (machine : MachineData) → (booted machine).stopped ≡ false
unfolding booted
booted_going machine = refl

booted_ready : (machine : MachineData) → IsMachine machine → IsReady (booted machine)
unfolding booted
booted_ready machine is =
    let many = length-replicate (length machine.tasks) Absent in record {
      sound = booted_sound machine is;
      sized = λ going. (
        record {
          states = refl;
          pris = as_many (λ (task : TaskData). task.pri) Absent machine.tasks;
          names = as_many (λ (task : TaskData). task.name) Absent machine.tasks;
          signals = length-replicate (length machine.tasks) initial_sets ∙ sym many;
          nestings = length-replicate (length machine.tasks) initial_nesting ∙ sym many;
        },
        as_many new_program Absent machine.tasks,
      );
    }

-- ---- whole runs

pub fed_machines_run_as_whole : FedMachinesRunAsWhole
unfolding run andthen
fed_machines_run_as_whole machine list is in_time =
    let first = starts (booted machine) in
    let ready = booted_ready machine is in
    ap (joined_to first) (inputs_are_events list first.state (started_ready (booted machine) ready (booted_going machine)) in_time)
    ∙ sym (ap (λ s. after (events (events_among list)) (starts s)) (booted_whole list machine)
    ∙ ap (after (events (events_among list)))
    (start_commutes list (booted machine) ready (booted_going machine) (none_starts list first.state in_time)
    (λ new. later_going list first.state in_time new)))

-- the events of a run leave a state of which that is known
events_ready : (list : List Event) (s : State) → IsReady s → IsReady (events list s).state
unfolding events andthen
events_ready [] s ready = ready
events_ready (e ∷ rest) s ready = events_ready rest (event e s).state (event_ready e s ready)

pub events_commute_with_new_tasks : EventsCommuteWithNewTasks
unfolding run andthen
events_commute_with_new_tasks machine list e task is going =
    new_event task e (run machine list).state
    (events_ready list (starts (booted machine)).state (started_ready (booted machine) (booted_ready machine is) (booted_going machine))) going
