-- What each change of a schedule leaves as it is.
use Rattle.std.proofs.Common.{◌≡◌, ◌∙◌, ℕ, zero, suc, ℤ, Bool, true, false, List, Option, None, Some, refl, sym, not, nat_eq, ◌&&◌, length-set, if◌then◌else◌}
use Rattle.execlist.specs.Disciplines.{by_arrival, pri_at}
use Rattle.signals.specs.Signals.{SignalSets, after_post, taken_signals}
use Rattle.forbid.specs.Nesting.{Nesting}
use Rattle.taskq.specs.Tasks.{is_ready, is_live}
use Rattle.taskq.specs.declared.TaskState.{TaskState}
use Rattle.scheduler.specs.Schedule.{Schedule, status_of, signals_of, with_status, with_priority, with_signals, allocates_signal, frees_signal, sets_signals, takes_signals, waits_for, after_wait, nested, leaves, task_removed, begins, renewed, quantum_ticked, ticked_for, is_absent, awaits, is_switching_allowed, is_quantum_over, takes_over, switch_for}
use Rattle.scheduler.specs.{Dispatch.arrives, Dispatch.added, Dispatch.signalled, Dispatch.reprioritized, Dispatch.displaced, Dispatch.after_switch, Dispatch.rescheduled, Dispatch.switch_of}
use Rattle.scheduler.specs.declared.Switch.TheVariants as switch
use Rattle.execmodel.specs.{State.Scripts, State.program_of, Step.all_added}
use Rattle.softint.specs.declared.source.Source.{Source}
use Rattle.softint.specs.declared.source.Source.TheVariants as source
use Rattle.execmodel.specs.Interrupts.{serving_counted}
use Rattle.execmodel.proofs.Heaps.{true_is_not_false}
use Rattle.statekeys.specs.Fits.{StaysSchedule}

module _ (b : Schedule) where
  either : (test : Bool) (r s : Schedule) → StaysSchedule b r → StaysSchedule b s → StaysSchedule b (if test then r else s)
  either true r s one other = one
  either false r s one other = other

  pub signals_stay : (t : ℕ) (sets : SignalSets) (s : Schedule) → StaysSchedule b s → StaysSchedule b (with_signals t sets s)
  signals_stay t sets s h = record {
    names = h.names;
    quantum = h.quantum;
    states = h.states;
    pris = h.pris;
    nestings = h.nestings;
    idle = h.idle;
    signals = length-set s.signals t sets ∙ h.signals;
  }

  status_stays : (t : ℕ) (status : TaskState) (s : Schedule) → StaysSchedule b s → StaysSchedule b (with_status t status s)
  status_stays t status s h = record {
    names = h.names;
    quantum = h.quantum;
    pris = h.pris;
    signals = h.signals;
    nestings = h.nestings;
    idle = h.idle;
    states = length-set s.queue.states t status ∙ h.states;
  }

  priority_stays : (t : ℕ) (pri : ℤ) (s : Schedule) → StaysSchedule b s → StaysSchedule b (with_priority t pri s)
  priority_stays t pri s h = record {
    names = h.names;
    quantum = h.quantum;
    states = h.states;
    signals = h.signals;
    nestings = h.nestings;
    idle = h.idle;
    pris = length-set s.queue.pris t pri ∙ h.pris;
  }

  ready_stays : (ready : List ℕ) (s : Schedule) → StaysSchedule b s → StaysSchedule b (record s { queue = record s.queue { ready = ready } })
  ready_stays ready s h = record {
    names = h.names;
    quantum = h.quantum;
    states = h.states;
    pris = h.pris;
    signals = h.signals;
    nestings = h.nestings;
    idle = h.idle;
  }

  stops_stay : (s : Schedule) → StaysSchedule b s → StaysSchedule b (record s { running = None })
  stops_stay s h = record {
    names = h.names;
    quantum = h.quantum;
    states = h.states;
    pris = h.pris;
    signals = h.signals;
    nestings = h.nestings;
    idle = λ e. refl;
  }

  -- ---- signals, nesting and tasks

  pub allocates_stays : (t : ℕ) (n : ℤ) (s : Schedule) → StaysSchedule b s → StaysSchedule b (allocates_signal t n s)
  unfolding allocates_signal
  allocates_stays t n s h = signals_stay t _ s h

  pub frees_stays : (t n : ℕ) (s : Schedule) → StaysSchedule b s → StaysSchedule b (frees_signal t n s)
  unfolding frees_signal
  frees_stays t n s h = either (is_live (status_of s t)) _ s (signals_stay t _ s h) h

  pub sets_stays : (t new mask : ℕ) (s : Schedule) → StaysSchedule b s → StaysSchedule b (sets_signals t new mask s)
  unfolding sets_signals
  sets_stays t new mask s h = signals_stay t _ s h

  pub after_wait_stays : (t mask : ℕ) (s : Schedule) → StaysSchedule b s → StaysSchedule b (after_wait t mask s)
  unfolding waits_for takes_signals
  after_wait_stays t mask s h =
      either (nat_eq (taken_signals mask (signals_of s t)) 0) (waits_for t mask s) (takes_signals t mask s)
      (stops_stay (with_status t _ s) (status_stays t _ s h)) (signals_stay t _ s h)

  pub arrives_stays : (t : ℕ) (s : Schedule) → StaysSchedule b s → StaysSchedule b (arrives by_arrival t s)
  unfolding arrives
  arrives_stays t s h = ready_stays _ (with_status t _ s) (status_stays t _ s h)

  pub signalled_stays : (t mask : ℕ) (s : Schedule) → StaysSchedule b s → StaysSchedule b (signalled by_arrival t mask s)
  unfolding signalled
  signalled_stays t mask s h =
      let got = with_signals t (after_post mask (signals_of s t)) s in
      let is = signals_stay t (after_post mask (signals_of s t)) s h in
      either (not (is_live (status_of s t))) s _ h
      (either (awaits (status_of s t) (signals_of got t).received) (arrives by_arrival t got) got (arrives_stays t got is) is)

  pub nested_stays : (t : ℕ) (nesting : Option Nesting) (s : Schedule) → StaysSchedule b s → StaysSchedule b (nested t nesting s)
  nested_stays t None s h = h
  nested_stays t (Some nesting) s h = record {
    names = h.names;
    quantum = h.quantum;
    states = h.states;
    pris = h.pris;
    signals = h.signals;
    idle = h.idle;
    nestings = length-set s.nestings t nesting ∙ h.nestings;
  }

  pub added_stays : (t : ℕ) (s : Schedule) → StaysSchedule b s → StaysSchedule b (added by_arrival t s)
  unfolding added
  added_stays t s h = either (is_absent (status_of s t)) _ s (arrives_stays t s h) h

  pub leaves_stays : (t : ℕ) (s : Schedule) → StaysSchedule b s → StaysSchedule b (leaves t s)
  unfolding leaves
  leaves_stays t s h = stops_stay (with_status t _ s) (status_stays t _ s h)

  pub removed_stays : (t : ℕ) (s : Schedule) → StaysSchedule b s → StaysSchedule b (task_removed t s)
  unfolding task_removed
  removed_stays t s h = ready_stays _ (with_status t _ s) (status_stays t _ s h)

  pub reprioritized_stays : (t : ℕ) (pri : ℤ) (s : Schedule) → StaysSchedule b s → StaysSchedule b (reprioritized by_arrival t pri s)
  unfolding reprioritized
  reprioritized_stays t pri s h =
      let is = priority_stays t pri s h in
      either (is_ready (status_of s t)) _ _ (arrives_stays t _ (ready_stays _ (with_priority t pri s) is)) is

  -- ---- the switch of a settle

  renewed_stays : (running : Option ℕ) (s : Schedule) → StaysSchedule b s → StaysSchedule b (renewed running s)
  renewed_stays None s h = h
  renewed_stays (Some r) s h =
      either (is_switching_allowed (Some r) s && is_quantum_over s) _ s
      (record { names = h.names; quantum = h.quantum; states = h.states; pris = h.pris; signals = h.signals; nestings = h.nestings; idle = h.idle }) h

  displaced_stays : (running : Option ℕ) (s : Schedule) → StaysSchedule b s → StaysSchedule b (displaced by_arrival running s)
  displaced_stays None s h = h
  displaced_stays (Some r) s h = arrives_stays r s h

  begins_stays : (t : ℕ) (s : Schedule) → StaysSchedule b s → StaysSchedule b (begins t s)
  unfolding begins
  begins_stays t s h =
      let is = status_stays t _ s h in
      record {
        names = is.names;
        quantum = is.quantum;
        states = is.states;
        pris = is.pris;
        signals = is.signals;
        nestings = is.nestings;
        idle = λ e. true_is_not_false (sym e);
      }

  idles_stays : (s : Schedule) → s.running ≡ None → StaysSchedule b s → StaysSchedule b (record s { idle = true })
  idles_stays s none h = record {
    names = h.names;
    quantum = h.quantum;
    states = h.states;
    pris = h.pris;
    signals = h.signals;
    nestings = h.nestings;
    idle = λ e. none;
  }

  idle_or : (idle : Bool) (s : Schedule) → s.running ≡ None → StaysSchedule b s
      → StaysSchedule b (after_switch by_arrival (if idle then None else Some switch.Idle) s)
  idle_or true s none h = renewed_stays s.running s h
  idle_or false s none h = idles_stays s none h

  taken_or : (test : Bool) (t : ℕ) (s : Schedule) → StaysSchedule b s
      → StaysSchedule b (after_switch by_arrival (if test then Some (switch.To t) else None) s)
  taken_or true t s h = begins_stays t (displaced by_arrival s.running s) (displaced_stays s.running s h)
  taken_or false t s h = renewed_stays s.running s h

  switched_stays : (running found : Option ℕ) (s : Schedule) → s.running ≡ running → StaysSchedule b s
      → StaysSchedule b (after_switch by_arrival (switch_for running found s) s)
  switched_stays None None s is h = idle_or s.idle s is h
  switched_stays None (Some t) s is h = begins_stays t (displaced by_arrival s.running s) (displaced_stays s.running s h)
  switched_stays (Some r) None s is h = renewed_stays s.running s h
  switched_stays (Some r) (Some t) s is h = taken_or (is_switching_allowed (Some r) s && takes_over t r s) t s h

  pub rescheduled_stays : (s : Schedule) → StaysSchedule b s → StaysSchedule b (rescheduled by_arrival s)
  unfolding rescheduled switch_of
  rescheduled_stays s h = switched_stays s.running (by_arrival.choice (pri_at s.queue.pris) s.queue.ready) s refl h

  -- ---- the quantum, and the start

  counted_stays : (running : Option ℕ) (s : Schedule) → StaysSchedule b s → StaysSchedule b (ticked_for running s)
  counted_stays None s h = h
  counted_stays (Some r) s h = record {
    names = h.names;
    quantum = h.quantum;
    states = h.states;
    pris = h.pris;
    signals = h.signals;
    nestings = h.nestings;
    idle = h.idle;
  }

  pub serving_stays : (asks : Source) (s : Schedule) → StaysSchedule b s → StaysSchedule b (serving_counted asks s)
  unfolding quantum_ticked
  serving_stays source.Ports s h = h
  serving_stays source.Vertb s h = counted_stays s.running s h
  serving_stays source.Exter s h = h

  pub all_added_stays : (scripts : Scripts) (n : ℕ) (s : Schedule) → StaysSchedule b s → StaysSchedule b (all_added scripts n s)
  unfolding all_added
  all_added_stays scripts zero s h = h
  all_added_stays scripts (suc n) s h =
      let is = all_added_stays scripts n s h in
      either (program_of scripts n).starts (added by_arrival n (all_added scripts n s)) (all_added scripts n s) (added_stays n _ is) is

-- after a switch that is due the machine is idle if no task runs
renewed_idle : (running : Option ℕ) (s : Schedule) → ((s.running ≡ None) → s.idle ≡ true) → ((renewed running s).running ≡ None) → (renewed running s).idle ≡ true
renewed_idle None s h none = h none
renewed_idle (Some r) s h none = by_test (is_switching_allowed (Some r) s && is_quantum_over s) none
  where
    by_test : (test : Bool) → (if test then record s { left = s.quantum } else s).running ≡ None → (if test then record s { left = s.quantum } else s).idle ≡ true
    by_test true e = h e
    by_test false e = h e

some_none : {A : Type 0} {x : ℕ} → Some x ≡ None → A
some_none {A} {x} e = cc

begun_idle : (t : ℕ) (s : Schedule) → (begins t s).running ≡ None → (begins t s).idle ≡ true
unfolding begins
begun_idle t s none = some_none none

switched_idle : (running found : Option ℕ) (idle : Bool) (s : Schedule) → s.running ≡ running → s.idle ≡ idle
    → (after_switch by_arrival (switch_for running found s) s).running ≡ None → (after_switch by_arrival (switch_for running found s) s).idle ≡ true
switched_idle None None idle s is e none = by_idle s.idle refl none
  where
    by_idle : (x : Bool) → s.idle ≡ x → (after_switch by_arrival (if x then None else Some switch.Idle) s).running ≡ None
        → (after_switch by_arrival (if x then None else Some switch.Idle) s).idle ≡ true
    by_idle true right none = renewed_idle s.running s (λ n. right) none
    by_idle false right none = refl
switched_idle None (Some t) idle s is e none = begun_idle t (displaced by_arrival s.running s) none
switched_idle (Some r) None idle s is e none = renewed_idle s.running s (λ n. some_none (sym is ∙ n)) none
switched_idle (Some r) (Some t) idle s is e none = by_test (is_switching_allowed (Some r) s && takes_over t r s) none
  where
    by_test : (test : Bool) → (after_switch by_arrival (if test then Some (switch.To t) else None) s).running ≡ None
        → (after_switch by_arrival (if test then Some (switch.To t) else None) s).idle ≡ true
    by_test true none = begun_idle t (displaced by_arrival s.running s) none
    by_test false none = renewed_idle s.running s (λ n. some_none (sym is ∙ n)) none

pub rescheduled_idle : (s : Schedule) → (rescheduled by_arrival s).running ≡ None → (rescheduled by_arrival s).idle ≡ true
unfolding rescheduled switch_of
rescheduled_idle s none = switched_idle s.running (by_arrival.choice (pri_at s.queue.pris) s.queue.ready) s.idle s refl refl none
