-- What stays over every run of a machine whose words do not touch its memory.
use Rattle.std.proofs.Common.{◌≡◌, ◌∙◌, ℕ, zero, suc, Bool, true, false, List, [], ◌∷◌, ◌++◌, None, refl, sym, ap, subst, All, IfSome, length, map, slice_index_or, if◌then◌else◌}
use Rattle.std.proofs.lemmas.List.Elements.{All-nil, All-head, All-tail, All-map}
use Rattle.std.proofs.lemmas.List.{length-map, length-replicate}
use Rattle.script.specs.declared.event.Event.TheVariants.{Run, Tick, Irq}
use Rattle.script.specs.{declared.event.Event.Event, File.MachineData, File.TaskData, File.SoftintData, File.ServerData}
use Rattle.softint.specs.declared.source.Source.{Source}
use Rattle.softint.specs.declared.source.Source.TheVariants as source
use Rattle.timerdev.specs.Timing.{clock_ticked}
use Rattle.execmodel.specs.State.{Memory, Program, State, Outcome, quiet, andthen, unless_stopped, on_memory, on_timer, on_pending, no_program, new_program, booted}
use Rattle.execmodel.specs.Interrupts.{no_softint, no_server, interrupts}
use Rattle.execmodel.specs.Pending.{with_latch_of}
use Rattle.execmodel.specs.Step.{switches, settle, acts, step, steps, request, tick, ticks, starts, event, events, run}
use Rattle.execmodel.proofs.{Heaps.true_is_not_false, Moments.events_more, NoStraysLaw.switches_quiet}
use Rattle.statekeys.specs.{Fits.HasBareWord, Fits.IsBare, Fits.IsWait, Fits.placed, Fits.placed_in, Fits.Stays, Fits.Drifts, Laws.GoesAlike, Laws.TheClockIsUnseen, Laws.KeysTellStates, Numbers.numbers, Runs.IsBareMachine}
use Rattle.statekeys.proofs.{Drifting.starts_drift, Drifting.events_drift, Drifting.event_drifts, Schedules.rescheduled_idle, Telling.IsEven, Telling.IsIdleRight, Telling.numbers_tell, ByteLemmas.bytes_tell}

-- ---- the first state

at_each : {X : Type 0} (P : X → Type 0) (d : X) (xs : List X) → All P xs → P d → (k : ℕ) → P (slice_index_or xs k d)
at_each P d [] all none k = none
at_each P d (x ∷ xs) all none zero = All-head P x xs all
at_each P d (x ∷ xs) all none (suc k) = at_each P d xs (All-tail P x xs all) none k

pub booted_bare : (machine : MachineData) → IsBareMachine machine → IsBare (booted machine)
unfolding booted
booted_bare machine is = record {
  tasks = at_each (λ (program : Program). All HasBareWord program.code) no_program (map new_program machine.tasks)
      (All-map (λ (program : Program). All HasBareWord program.code) new_program machine.tasks is.tasks) (All-nil HasBareWord);
  softints = at_each (λ (softint : SoftintData). All HasBareWord softint.code) no_softint machine.softints is.softints (All-nil HasBareWord);
  servers = at_each (λ (server : ServerData). All HasBareWord server.code) no_server machine.servers is.servers (All-nil HasBareWord);
}

none_waits : (tasks : List TaskData) (t : ℕ) → IfSome (slice_index_or (map new_program tasks) t no_program).kept IsWait
none_waits [] t = tt
none_waits (task ∷ tasks) zero = tt
none_waits (task ∷ tasks) (suc t) = none_waits tasks t

pub booted_stays : (machine : MachineData) → Stays (booted machine) (booted machine)
unfolding booted
booted_stays machine = record {
  schedule = record { names = refl; quantum = refl; states = refl; pris = refl; signals = refl; nestings = refl; idle = λ e. true_is_not_false (sym e) };
  scripts = record { executes = refl; waits = none_waits machine.tasks };
  bodies = refl;
}

pub booted_even : (machine : MachineData) → IsEven (booted machine).schedule (booted machine).scripts
unfolding booted
booted_even machine = record {
  states = length-replicate (length machine.tasks) _ ∙ sym (length-map machine.tasks new_program);
  pris = length-map machine.tasks (λ (task : TaskData). task.pri) ∙ sym (length-map machine.tasks new_program);
  signals = length-replicate (length machine.tasks) _ ∙ sym (length-map machine.tasks new_program);
  nestings = length-replicate (length machine.tasks) _ ∙ sym (length-map machine.tasks new_program);
}

-- ---- whether the machine is idle

abbrev IsRight : State → Type 0
IsRight s = s.stopped ≡ false → IsIdleRight s.schedule

settled_right : (s : State) → IsRight (settle s).state
unfolding settle andthen
settled_right s = by_test s.stopped refl
  where
    switched : (r : State) → IsRight (switches r).state
    switched r going none =
        let same = (switches_quiet r).1 in
        subst (λ (q : State). q.schedule.running ≡ None → q.schedule.idle ≡ true) (sym same) (rescheduled_idle r.schedule) none

    then_switched : (test : Bool) (r : State) → r.stopped ≡ test → IsRight (if test then quiet r else switches r).state
    then_switched true r is going none = true_is_not_false (sym is ∙ going)
    then_switched false r is going none = switched r going none

    by_test : (test : Bool) → s.stopped ≡ test → IsRight (if test then quiet s else andthen interrupts (unless_stopped switches) s).state
    by_test true is going none = true_is_not_false (sym is ∙ going)
    by_test false is going none = then_switched (interrupts s).state.stopped (interrupts s).state refl going none

step_right : (s : State) → IsRight (step s).state
unfolding step andthen
step_right s = settled_right (acts s).state

steps_right : (n : ℕ) (s : State) → IsRight s → IsRight (steps n s).state
unfolding steps andthen
steps_right zero s right = right
steps_right (suc n) s right = step_right (steps n s).state

asked_right : (next : State → Outcome) (s : State) → ((r : State) → IsRight (next r).state) → IsRight (unless_stopped next s).state
asked_right next s each = by_test s.stopped refl
  where
    by_test : (test : Bool) → s.stopped ≡ test → IsRight (if test then quiet s else next s).state
    by_test true is going none = true_is_not_false (sym is ∙ going)
    by_test false is going none = each s going none

request_right : (asks : Source) (s : State) → IsRight (request asks s).state
unfolding request
request_right asks s = asked_right (λ r. settle (on_pending (with_latch_of asks true) r)) s (λ r. settled_right (on_pending (with_latch_of asks true) r))

tick_right : (s : State) → IsRight (tick s).state
unfolding tick
tick_right s = asked_right (λ r. request source.Vertb (on_memory (on_timer clock_ticked) r)) s (λ r. request_right source.Vertb (on_memory (on_timer clock_ticked) r))

ticks_right : (n : ℕ) (s : State) → IsRight s → IsRight (ticks n s).state
unfolding ticks andthen
ticks_right zero s right = right
ticks_right (suc n) s right = tick_right (ticks n s).state

event_right : (e : Event) (s : State) → IsRight s → IsRight (event e s).state
unfolding event
event_right (Run n) s right = steps_right n s right
event_right (Tick n) s right = ticks_right n s right
event_right (Irq asks) s right = request_right asks s

events_right : (list : List Event) (s : State) → IsRight s → IsRight (events list s).state
unfolding events andthen
events_right [] s right = right
events_right (e ∷ rest) s right = events_right rest (event e s).state (event_right e s right)

pub run_right : (machine : MachineData) (list : List Event) → IsRight (run machine list).state
unfolding run andthen starts
run_right machine list = events_right list (starts (booted machine)).state (settled_right _)

-- ---- runs

-- a run whose state has a cleared memory, and in which what stays has stayed
pub record RunsBare (machine : MachineData) (list : List Event) : Type 0 where
  pub memory : Memory
  pub is : (run machine list).state ≡ placed memory (run machine list).state
  pub stays : Stays (booted machine) (run machine list).state

joined_drifts : (b : State) (bare : IsBare b) (list : List Event) → Stays b b → Drifts b (λ m. andthen starts (events list) (placed m b))
unfolding andthen
joined_drifts b bare list h =
    let one = starts_drift b bare b h in
    let more = events_drift b bare list one.core.state one.stays in
    record {
      core = record { state = more.core.state; lines = one.core.lines ++ more.core.lines; marks = one.core.marks ++ more.core.marks };
      same = λ m.
          let mid = one.same m in
          let end = more.same mid.0 in (
            end.0,
            ap (λ (a : Outcome). let o = events list a.state in record { state = o.state; lines = a.lines ++ o.lines; marks = a.marks ++ o.marks }) mid.1
                ∙ ap (λ (o : Outcome). record { state = o.state; lines = one.core.lines ++ o.lines; marks = one.core.marks ++ o.marks }) end.1,
          );
      stays = record { schedule = more.stays.schedule; scripts = more.stays.scripts; bodies = more.stays.bodies };
    }

pub run_bare : (machine : MachineData) (list : List Event) → IsBareMachine machine → RunsBare machine list
unfolding run booted
run_bare machine list is =
    let b = booted machine in
    let drifts = joined_drifts b (booted_bare machine is) list (booted_stays machine) in
    let there = drifts.same b.memory in
    let end : (run machine list).state ≡ placed there.0 drifts.core.state = ap (λ (o : Outcome). o.state) there.1 in
    record {
      memory = there.0;
      is = end ∙ sym (ap (λ (s : State). placed there.0 s) end);
      stays = subst (λ (s : State). Stays b s) (sym end)
          (record { schedule = drifts.stays.schedule; scripts = drifts.stays.scripts; bodies = drifts.stays.bodies });
    }

-- one event more
pub run_more : (machine : MachineData) (list : List Event) (e : Event)
    → (run machine (list ++ e ∷ [])).state ≡ (event e (run machine list).state).state
unfolding run andthen events
run_more machine list e = ap (λ (o : Outcome). o.state) (events_more list (e ∷ []) (starts (booted machine)).state)

-- ---- an event from the same state with another memory

pub goes_alike : (machine : MachineData) (list : List Event) (e : Event) (m : Memory) → IsBareMachine machine → GoesAlike e m (run machine list).state
goes_alike machine list e m is =
    let b = booted machine in
    let s = (run machine list).state in
    let there = run_bare machine list is in
    let drifts = event_drifts b (booted_bare machine is) e s there.stays in
    let other = drifts.same m in
    let own = drifts.same there.memory in
    let here : event e s ≡ placed_in own.0 drifts.core = ap (event e) there.is ∙ own.1 in
    record {
      memory = other.0;
      state = ap (λ (o : Outcome). o.state) other.1 ∙ sym (ap (λ (o : Outcome). placed other.0 o.state) here);
      lines = ap (λ (o : Outcome). o.lines) other.1 ∙ sym (ap (λ (o : Outcome). o.lines) here);
    }

pub the_clock_is_unseen : TheClockIsUnseen
the_clock_is_unseen machine list e m is = goes_alike machine list e m is

pub keys_tell_states : KeysTellStates
keys_tell_states machine list other is going others e =
    let b = booted machine in
    let one = run_bare machine list is in
    let two = run_bare machine other is in
    let s = (run machine list).state in
    let r = (run machine other).state in
    let same = numbers_tell b.schedule b.scripts s.schedule r.schedule s.scripts r.scripts s.pending r.pending (booted_even machine)
    one.stays.schedule two.stays.schedule one.stays.scripts two.stays.scripts (run_right machine list going) (run_right machine other others)
    (bytes_tell (numbers s.schedule s.scripts s.pending) (numbers r.schedule r.scripts r.pending) e) in
    let bodies = one.stays.bodies ∙ sym two.stays.bodies in
    let stopped = going ∙ sym others in
    λ i. record {
      schedule = same.schedule i;
      scripts = same.scripts i;
      memory = s.memory;
      bodies = bodies i;
      pending = same.pending i;
      stopped = stopped i;
    }
