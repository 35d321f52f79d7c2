-- Each line of a switch in the text of a run is that of a switch at the start, or at the end of an action.
use Rattle.std.proofs.Common.{◌≡◌, ℕ, zero, suc, Bool, true, false, List, [], ◌∷◌, Option, None, Some, refl, ap, length, All, if◌then◌else◌}
use Rattle.std.proofs.lemmas.List.Elements.{All-nil, All-cons, All-append}
use Rattle.execlist.specs.Disciplines.{by_arrival}
use Rattle.exectrace.specs.Trace.{TraceLine, Switch, Idle, Call, Serve, Timer, Server, Softint, Alert}
use Rattle.script.specs.declared.event.Event.TheVariants.{Run, Tick, Irq}
use Rattle.script.specs.{File.MachineData, declared.event.Event.Event}
use Rattle.softint.specs.{declared.source.Source.Source, declared.source.Source.TheVariants.Vertb}
use Rattle.timerdev.specs.Timing.{clock_ticked}
use Rattle.scheduler.specs.{declared.Switch.Switch as Choice, Schedule.task_name, Dispatch.switch_of}
use Rattle.scheduler.specs.declared.Switch.TheVariants as choice
use Rattle.execmodel.specs.Step.{announced, switches, settle, call_step, task_step, softint_or_task_step, step_action, acts, step, steps, request, tick, ticks, all_added, starts, event, events, run}
use Rattle.execmodel.specs.{State.Call as TaskCall, State.State, State.Outcome, State.quiet, State.andthen, State.unless_stopped, State.on_schedule, State.on_memory, State.on_pending, State.on_timer, State.booted, Calls.next_call, Pending.with_latch_of, Pending.next_softint, Interrupts.interrupts, Laws.OneStep, Laws.OneTick, Laws.OneRequest, Laws.says_switch, Laws.ComesTo, Laws.begins, Laws.goes_on, Laws.SwitchesTo, Laws.at_start, Laws.by_action, Laws.EachSwitchLineIsAChoice}
use Rattle.execmodel.proofs.{Heaps.true_is_not_false, LinesOfBodies.only_switches_say_so}

-- ---- what says no switch

call_silent : (t : ℕ) (call : Option TaskCall) (s : State) → says_switch (call_step t call s).lines ≡ false
call_silent t None s = only_switches_say_so.of_ends t s
call_silent t (Some call) s = only_switches_say_so.of_calls t call s

task_silent : (running : Option ℕ) (s : State) → says_switch (task_step running s).lines ≡ false
task_silent None s = refl
task_silent (Some t) s = call_silent t (next_call t s.scripts) s

acting_silent : (found : Option ℕ) (s : State) → says_switch (softint_or_task_step found s).lines ≡ false
acting_silent None s = task_silent s.schedule.running s
acting_silent (Some i) s = only_switches_say_so.of_softints i s

module _ (machine : MachineData) where
  abbrev IsChoice : TraceLine → Type 0
  IsChoice line = (name : List ℕ) → line ≡ Switch name → SwitchesTo machine name

  abbrev AreChoices : List TraceLine → Type 0
  AreChoices lines = All IsChoice lines

  silent : (lines : List TraceLine) → says_switch lines ≡ false → AreChoices lines
  silent [] none = All-nil IsChoice
  silent (Switch name ∷ lines) none = true_is_not_false none
  silent (Idle ∷ lines) none = All-cons IsChoice Idle lines (λ name e. cc) (silent lines none)
  silent (Call who word arguments outcome ∷ lines) none = All-cons IsChoice (Call who word arguments outcome) lines (λ name e. cc) (silent lines none)
  silent (Serve source ∷ lines) none = All-cons IsChoice (Serve source) lines (λ name e. cc) (silent lines none)
  silent (Timer value ∷ lines) none = All-cons IsChoice (Timer value) lines (λ name e. cc) (silent lines none)
  silent (Server who ∷ lines) none = All-cons IsChoice (Server who) lines (λ name e. cc) (silent lines none)
  silent (Softint who ∷ lines) none = All-cons IsChoice (Softint who) lines (λ name e. cc) (silent lines none)
  silent (Alert code who word ∷ lines) none = All-cons IsChoice (Alert code who word) lines (λ name e. cc) (silent lines none)

  -- ---- parts of an action

  announced_choice : (c : Option Choice) (s : State) → ((name : List ℕ) → (announced c s).lines ≡ Switch name ∷ [] → SwitchesTo machine name)
      → AreChoices (announced c s).lines
  announced_choice None s makes = All-nil IsChoice
  announced_choice (Some (choice.To t)) s makes =
      All-cons IsChoice (Switch (task_name s.schedule t)) [] (λ name e. makes name (ap (λ line. line ∷ []) e)) (All-nil IsChoice)
  announced_choice (Some choice.Idle) s makes = All-cons IsChoice Idle [] (λ name e. cc) (All-nil IsChoice)

  switched : (s : State) → ((name : List ℕ) → (switches s).lines ≡ Switch name ∷ [] → SwitchesTo machine name) → AreChoices (switches s).lines
  unfolding switches
  switched s makes = announced_choice (switch_of by_arrival s.schedule) _ makes

  both : (first next : State → Outcome) (s : State) → AreChoices (first s).lines → AreChoices (next (first s).state).lines
      → AreChoices (andthen first next s).lines
  unfolding andthen
  both first next s one other = All-append IsChoice (first s).lines (next (first s).state).lines one other

  unless : (next : State → Outcome) (s : State) → AreChoices (next s).lines → AreChoices (unless_stopped next s).lines
  unless next s are = tested s.stopped where
    tested : (test : Bool) → AreChoices (if test then quiet s else next s).lines
    tested true = All-nil IsChoice
    tested false = are

  settled : (s : State) → ((name : List ℕ) → (switches (interrupts s).state).lines ≡ Switch name ∷ [] → SwitchesTo machine name)
      → AreChoices (settle s).lines
  unfolding settle
  settled s makes =
      unless (andthen interrupts (unless_stopped switches)) s
      (both interrupts (unless_stopped switches) s (silent (interrupts s).lines (only_switches_say_so.of_interrupts s))
      (unless switches (interrupts s).state (switched (interrupts s).state makes)))

  acted : (s : State) → AreChoices (acts s).lines
  unfolding acts step_action
  acted s = unless step_action s (silent (softint_or_task_step (next_softint s) s).lines (acting_silent (next_softint s) s))

  -- ---- actions and events

  stepped : (s : State) → ComesTo machine s → AreChoices (step s).lines
  unfolding step
  stepped s comes = both acts settle s (acted s) (settled (acts s).state (λ name e. by_action OneStep s comes e))

  requested : (asks : Source) (s : State) → ComesTo machine s → AreChoices (request asks s).lines
  unfolding request
  requested asks s comes =
      unless (λ s. settle (on_pending (with_latch_of asks true) s)) s
      (settled (on_pending (with_latch_of asks true) s) (λ name e. by_action (OneRequest asks) s comes e))

  one_tick : (s : State) → ComesTo machine s → AreChoices (tick s).lines
  unfolding tick request
  one_tick s comes =
      unless (λ s. request Vertb (on_memory (on_timer clock_ticked) s)) s
      (unless (λ s. settle (on_pending (with_latch_of Vertb true) s)) (on_memory (on_timer clock_ticked) s)
      (settled (on_pending (with_latch_of Vertb true) (on_memory (on_timer clock_ticked) s)) (λ name e. by_action OneTick s comes e)))

  abbrev Goes : Outcome → Type 0
  Goes o = AreChoices o.lines × ComesTo machine o.state

  all_steps : (n : ℕ) (s : State) → ComesTo machine s → Goes (steps n s)
  unfolding steps andthen
  all_steps zero s comes = (All-nil IsChoice, comes)
  all_steps (suc n) s comes =
      let before = all_steps n s comes in
      (both (steps n) step s before.0 (stepped (steps n s).state before.1), goes_on OneStep (steps n s).state before.1)

  all_ticks : (n : ℕ) (s : State) → ComesTo machine s → Goes (ticks n s)
  unfolding ticks andthen
  all_ticks zero s comes = (All-nil IsChoice, comes)
  all_ticks (suc n) s comes =
      let before = all_ticks n s comes in
      (both (ticks n) tick s before.0 (one_tick (ticks n s).state before.1), goes_on OneTick (ticks n s).state before.1)

  one_event : (e : Event) (s : State) → ComesTo machine s → Goes (event e s)
  unfolding event
  one_event (Run n) s comes = all_steps n s comes
  one_event (Tick n) s comes = all_ticks n s comes
  one_event (Irq asks) s comes = (requested asks s comes, goes_on (OneRequest asks) s comes)

  all_events : (list : List Event) (s : State) → ComesTo machine s → AreChoices (events list s).lines
  unfolding events
  all_events [] s comes = All-nil IsChoice
  all_events (e ∷ rest) s comes =
      let one = one_event e s comes in
      both (event e) (events rest) s one.0 (all_events rest (event e s).state one.1)

  start : AreChoices (starts (booted machine)).lines
  unfolding starts
  start = settled (on_schedule (all_added (booted machine).scripts (length (booted machine).scripts.programs)) (booted machine)) (λ name e. at_start e)

  whole : (list : List Event) → AreChoices (run machine list).lines
  unfolding run
  whole list = both starts (events list) (booted machine) start (all_events list (starts (booted machine)).state begins)

pub each_switch_line_is_a_choice : EachSwitchLineIsAChoice
each_switch_line_is_a_choice machine list = whole machine list
