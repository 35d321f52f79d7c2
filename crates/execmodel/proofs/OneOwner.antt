-- Each byte has one owner.
use Rattle.std.proofs.Common.{◌≡◌, ◌≢◌, ℕ, Bool, true, false, List, Option, None, Some, refl, sym, ◌∙◌, subst, not, if◌then◌else◌, codes, option_map}
use Rattle.execlist.specs.Disciplines.{by_arrival}
use Rattle.memlist.specs.Memory.{IsWellFormed}
use Rattle.memlist.proofs.{Tiling.tiled, Fitting.disjoint}
use Rattle.script.specs.{File.MachineData, declared.event.Event.Event}
use Rattle.execmodel.specs.{State.Call, State.Object, State.Plain, State.Block, State.State, State.Outcome, State.booted, State.andthen, State.on_schedule, Calls.argument, Calls.alerted, Calls.unless, Bodies.body_step, Memory.extents, Memory.block_at, Memory.is_plain, Memory.is_named, Memory.memory_deed, Deeds.performs, Step.switches, Step.ends, Step.starts, Step.run, Laws.EachByteHasOneOwner, Laws.FreeMemRefusesObjects, Requests.finishes}
use Rattle.scheduler.specs.Dispatch.{rescheduled}
use Rattle.execmodel.proofs.{Heaps.true_is_not_false, WithoutFinishing.does_itself, WithoutFinishing.call_works, Stretches.Relation, Stretches.HoldsOfEach, Stretches.of_starts, Stretches.of_events, Commands.none_some, LinesOf.body_alters, Asking.finishing, NoStraysLaw.FormedState, NoStraysLaw.works_regions, NoStraysLaw.works_formed, NoStraysLaw.altered_formed, NoStraysLaw.finished_formed, NoStraysLaw.booted_formed, NoStraysLaw.quietly, NoStraysLaw.switches_quiet}
use Rattle.script.specs.declared.alert.Alert.TheVariants as an_alert

-- the regions stay, and the blocks stay well formed
abbrev Memories : Relation
Memories old marks new = FormedState old → FormedState new × (new.memory.regions ≡ old.memory.regions)

memories : HoldsOfEach Memories
unfolding ends
memories = record {
  interrupting = record {
    nothing = λ s formed. (formed, refl);
    joined = λ s some r more q first next formed. let mid = first formed in let end = next mid.0 in (end.0, end.1 ∙ mid.1);
    commanding = λ name command s formed. (
      altered_formed s _ (body_step name command s).state (body_alters name command s) formed,
      (body_alters name command s).regions,
    );
    pending = λ f s formed. (formed, refl);
    finishing = λ request s waits formed. (
      finished_formed s _ (finishes request s).state (finishing request s waits) formed,
      (finishing request s waits).regions,
    );
    looking = λ s formed. (formed, refl);
    ticking = λ s formed. (formed, refl);
    switching = λ s. quietly Memories s (switches s) (on_schedule (rescheduled by_arrival) s) (switches_quiet s) (λ formed. (formed, refl));
  };
  adding = λ t s less formed. (formed, refl);
  calling = λ t call s runs is formed. (
    works_formed t call s (does_itself t call s) (call_works t call s) formed,
    works_regions t call s (does_itself t call s) (call_works t call s),
  );
  ending = λ t s runs formed. (formed, refl);
}

run_memories : (machine : MachineData) (list : List Event) → Memories (booted machine) (run machine list).marks (run machine list).state
unfolding run andthen
run_memories machine list formed =
    let mid = of_starts Memories memories (booted machine) formed in
    let end = of_events Memories memories (λ s formed. (formed, refl)) list (starts (booted machine)).state mid.0 in
    (end.0, end.1 ∙ mid.1)

booted_regions : (machine : MachineData) → (booted machine).memory.regions ≡ machine.regions
unfolding booted
booted_regions machine = refl

pub each_byte_has_one_owner : EachByteHasOneOwner
each_byte_has_one_owner machine list is =
    let held = run_memories machine list (booted_formed machine is) in
    let same = held.1 ∙ booted_regions machine in
    let formed = subst (λ regions. IsWellFormed regions (extents (run machine list).state.memory.heap)) same held.0 in
    record {
      installed = same;
      tiled = λ place region there. tiled machine.regions (extents (run machine list).state.memory.heap) place region formed there;
      disjoint = disjoint machine.regions (extents (run machine list).state.memory.heap) formed;
    }

not_plain : (object : Object) → object ≢ Plain → is_plain object ≡ false
not_plain Plain other = absurd (other refl)
not_plain _ other = refl

refused : (size : ℕ) (found : Option Block) (object : Object) → option_map (λ (block : Block). block.object) found ≡ Some object
    → is_plain object ≡ false → is_named size found ≡ false
refused size None object e is = none_some (sym e)
refused size (Some block) object e is = let same : block.object ≡ object = cc in rw (same, is) refl

stops : (test : Bool) (t : ℕ) (call : Call) (effect : State → Outcome) (s : State) → test ≡ false
    → unless (if not test then Some an_alert.Mem else None) t call effect s ≡ alerted an_alert.Mem t call s
stops true t call effect s e = true_is_not_false e
stops false t call effect s e = refl

pub free_mem_refuses_objects : FreeMemRefusesObjects
unfolding performs memory_deed
free_mem_refuses_objects t call s object there is =
    stops (is_named (argument 1 call) (block_at (argument 0 call) s.memory.heap)) t call _ s
    (refused (argument 1 call) (block_at (argument 0 call) s.memory.heap) object there (not_plain object is))
