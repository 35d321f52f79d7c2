-- In every state of every run the blocks are well formed, and the requests are in order with the ports and the timer.
use Rattle.std.proofs.Common.{◌≡◌, ℕ, List, [], Option, None, Some, refl, sym, subst}
use Rattle.execlist.specs.Disciplines.{by_arrival}
use Rattle.memlist.specs.Memory.{IsWellFormed}
use Rattle.memlist.proofs.Keeping.{untouched_well_formed}
use Rattle.scheduler.specs.{declared.Switch.Switch, declared.Switch.TheVariants.To, declared.Switch.TheVariants.Idle, Dispatch.switch_of, Dispatch.rescheduled}
use Rattle.script.specs.{File.MachineData, File.total_of, Machines.IsMachine, declared.event.Event.Event}
use Rattle.execmodel.specs.{State.Call, State.Heap, State.Memory, State.Timer, State.Waiting as Queued, State.Mark, State.State, State.Outcome, State.on_schedule, State.booted, State.andthen, Memory.extents, Bodies.body_step, Requests.finishes, Step.announced, Step.switches, Step.ends, Step.starts, Step.run}
use Rattle.execmodel.proofs.{Heaps.true_is_not_false, WithoutFinishing.does_itself, WithoutFinishing.call_works, Stretches.Relation, Stretches.HoldsOfEach, Stretches.of_starts, Stretches.of_events, Commands.Alters, LinesOf.body_alters, Posts.AreInOrder, Posts.IsTidy, Posts.post_at, Asking.Finishing, Asking.finishing, WellFormed.touched_formed, WellFormed.moves_formed, WellFormed.asked_formed, WellFormed.taken_formed, NoStrays.touched_order, NoStrays.moves_order, NoStrays.asked_order, NoStrays.taken_order, RequestsAfter.Works, RequestsAfter.by_moves, RequestsAfter.by_asking, RequestsAfter.by_taking}

-- a switch leaves no mark, and the memory as it is
pub announced_quiet : (c : Option Switch) (s : State) → ((announced c s).marks ≡ []) × ((announced c s).state ≡ s)
announced_quiet None s = (refl, refl)
announced_quiet (Some (To t)) s = (refl, refl)
announced_quiet (Some Idle) s = (refl, refl)

pub switches_quiet : (s : State) → ((switches s).marks ≡ []) × ((switches s).state ≡ on_schedule (rescheduled by_arrival) s)
unfolding switches
switches_quiet s = announced_quiet (switch_of by_arrival s.schedule) (on_schedule (rescheduled by_arrival) s)

-- a relation that holds if nothing happens holds of a switch
pub quietly : (R : Relation) (s : State) (o : Outcome) (r : State) → (o.marks ≡ []) × (o.state ≡ r) → R s [] r → R s o.marks o.state
quietly R s o r e holds = subst (λ q. R s o.marks q) (sym e.1) (subst (λ ms. R s ms r) (sym e.0) holds)

-- ---- blocks

abbrev pub FormedState : State → Type 0
FormedState s = IsWellFormed s.memory.regions (extents s.memory.heap)

pub works_regions : (t : ℕ) (call : Call) (s : State) (o : Outcome) → Works t call s o → o.state.memory.regions ≡ s.memory.regions
works_regions t call s o (by_moves makes same) = makes.0
works_regions t call s o (by_asking regions asks) = regions
works_regions t call s o (by_taking port request regions same marks heap lives) = regions

pub works_formed : (t : ℕ) (call : Call) (s : State) (o : Outcome) → Works t call s o → FormedState s → FormedState o.state
works_formed t call s o (by_moves makes same) formed =
    subst (λ regions. IsWellFormed regions (extents o.state.memory.heap)) (sym makes.0)
    (moves_formed s.memory.regions t call s.memory.heap o.marks o.state.memory.heap makes.1 formed)
works_formed t call s o (by_asking regions asks) formed =
    subst (λ r. IsWellFormed r (extents o.state.memory.heap)) (sym regions)
    (asked_formed s.memory.regions s o.marks o.state.memory.heap o.state.memory.timer.waiting asks formed)
works_formed t call s o (by_taking port request regions same marks heap lives) formed =
    subst (λ r. IsWellFormed r (extents o.state.memory.heap)) (sym regions)
    (subst (λ h. IsWellFormed s.memory.regions (extents h)) (sym heap) (taken_formed s.memory.regions port request s.memory.heap formed))

pub altered_formed : (s : State) (marks : List Mark) (r : State) → Alters s marks r → FormedState s → FormedState r
altered_formed s marks r alters formed =
    subst (λ regions. IsWellFormed regions (extents r.memory.heap)) (sym alters.regions)
    (touched_formed s.memory.regions s.memory.heap marks r.memory.heap alters.blocks formed)

pub finished_formed : (s : State) (marks : List Mark) (r : State) → Finishing s marks r → FormedState s → FormedState r
finished_formed s marks r finished formed =
    subst (λ regions. IsWellFormed regions (extents r.memory.heap)) (sym finished.regions)
    (asked_formed s.memory.regions s marks r.memory.heap r.memory.timer.waiting finished.asks formed)

-- ---- requests

-- the requests are in order if the same ones wait
abbrev InOrder : Heap → List Queued → Type 0
InOrder heap waiting = AreInOrder (post_at heap) waiting

works_order : (t : ℕ) (call : Call) (s : State) (o : Outcome) → Works t call s o → IsTidy s
    → InOrder o.state.memory.heap o.state.memory.timer.waiting
works_order t call s o (by_moves makes same) tidy =
    subst (λ waiting. InOrder o.state.memory.heap waiting) (sym same)
    (moves_order s.memory.timer.waiting s.memory.regions t call s.memory.heap o.marks o.state.memory.heap makes.1 tidy.formed tidy.order)
works_order t call s o (by_asking regions asks) tidy = asked_order s o.marks o.state.memory.heap o.state.memory.timer.waiting asks tidy
works_order t call s o (by_taking port request regions same marks heap lives) tidy =
    subst (λ waiting. InOrder o.state.memory.heap waiting) (sym same)
    (subst (λ h. InOrder h s.memory.timer.waiting) (sym heap)
    (taken_order s.memory.timer.waiting port request s.memory.heap (lives tidy) tidy.order))

altered_order : (s : State) (marks : List Mark) (r : State) → Alters s marks r → IsTidy s → InOrder r.memory.heap r.memory.timer.waiting
altered_order s marks r alters tidy =
    subst (λ (timer : Timer). InOrder r.memory.heap timer.waiting) (sym alters.timer)
    (touched_order s.memory.timer.waiting s.memory.heap marks r.memory.heap alters.blocks tidy.order)

-- ---- every run

abbrev pub Tidies : Relation
Tidies old marks new = IsTidy old → IsTidy new

-- only the schedule changes
pub rescheduled_tidy : (s r : State) → r.memory ≡ s.memory → IsTidy s → IsTidy r
rescheduled_tidy s r same tidy = record {
  formed = subst (λ (m : Memory). IsWellFormed m.regions (extents m.heap)) (sym same) tidy.formed;
  order = subst (λ (m : Memory). InOrder m.heap m.timer.waiting) (sym same) tidy.order;
}

pub tidies : HoldsOfEach Tidies
unfolding ends
tidies = record {
  interrupting = record {
    nothing = λ s tidy. tidy;
    joined = λ s some r more q first next tidy. next (first tidy);
    commanding = λ name command s tidy. record {
      formed = altered_formed s _ (body_step name command s).state (body_alters name command s) tidy.formed;
      order = altered_order s _ (body_step name command s).state (body_alters name command s) tidy;
    };
    pending = λ f s. rescheduled_tidy s _ refl;
    finishing = λ request s waits tidy. record {
      formed = finished_formed s _ (finishes request s).state (finishing request s waits) tidy.formed;
      order = asked_order s _ (finishes request s).state.memory.heap (finishes request s).state.memory.timer.waiting (finishing request s waits).asks tidy;
    };
    looking = λ s tidy. record { formed = tidy.formed; order = tidy.order };
    ticking = λ s. rescheduled_tidy s _ refl;
    switching = λ s. quietly Tidies s (switches s) (on_schedule (rescheduled by_arrival) s) (switches_quiet s) (rescheduled_tidy s _ refl);
  };
  adding = λ t s less. rescheduled_tidy s _ refl;
  calling = λ t call s runs is tidy. record {
    formed = works_formed t call s (does_itself t call s) (call_works t call s) tidy.formed;
    order = works_order t call s (does_itself t call s) (call_works t call s) tidy;
  };
  ending = λ t s runs. rescheduled_tidy s _ refl;
}

-- the blocks of a machine before its start, if no request waits
pub booted_formed : (machine : MachineData) → IsMachine machine → FormedState (booted machine)
unfolding booted
booted_formed machine is = untouched_well_formed (total_of machine.version) machine.regions is.regions

pub booted_tidy : (machine : MachineData) → IsMachine machine → IsTidy (booted machine)
unfolding booted
booted_tidy machine is = record {
  formed = untouched_well_formed (total_of machine.version) machine.regions is.regions;
  order = record { stands = λ who port barred. tt; lives = λ request under. true_is_not_false (sym under); waits = λ request. refl };
}

pub tidy_in_every_state : (machine : MachineData) (list : List Event) → IsMachine machine → IsTidy (run machine list).state
unfolding run andthen
tidy_in_every_state machine list is =
    of_events Tidies tidies (λ s tidy. record { formed = tidy.formed; order = tidy.order }) list (starts (booted machine)).state
    (of_starts Tidies tidies (booted machine) (booted_tidy machine is))
