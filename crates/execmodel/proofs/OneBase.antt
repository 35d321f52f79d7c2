-- A loaded library is at one base only: no call puts a second one of its number anywhere.
use Rattle.std.proofs.Common.{◌≡◌, ◌≢◌, ℕ, Bool, true, false, List, [], ◌∷◌, Option, None, Some, refl, sym, ap, ◌∙◌, subst, cond, find, not, if◌then◌else◌, nat_eq, map, option_map, nat_cmp}
use Rattle.std.specs.{Option.option_map_or, FinMap.put as put_entry}
use Rattle.execlist.specs.Disciplines.{by_arrival}
use Rattle.scheduler.specs.Dispatch.{rescheduled}
use Rattle.memlist.specs.{declared.region.Region.Region, Fit.round, Memory.IsWellFormed}
use Rattle.memlist.proofs.Answered.{nat_eq-same, cases_eq, key_same, key_other}
use Rattle.iorequest.specs.declared.request.Request.{Request as TimerRequest}
use Rattle.script.specs.{File.MachineData, Machines.IsMachine, declared.event.Event.Event}
use Rattle.execmodel.specs.State.{Call, Object, ListHead, Message, Library, Request, Block, Heap, Memory, Waiting as Queued, Mark, State, Outcome, andthen, on_schedule, booted}
use Rattle.execmodel.specs.Semaphores.{with_semaphore, left_by_task, entered, queued, dropped, handed_on, released_once}
use Rattle.execmodel.specs.Libraries.{is_library, is_library_at, is_numbered, library_number, library_number_at, with_library, base_of}
use Rattle.execmodel.specs.{Objects.object_at, Objects.is_kind, Objects.replaced, Memory.extents, Memory.block_at, Bodies.body_step, Requests.finishes, Requests.with_request, Lists.with_nodes, Lists.unlinked, Lists.left_by, Ports.with_port, Ports.with_action, Ports.appended, Ports.taken_off, Step.switches, Step.ends, Step.run, Step.starts, Laws.LibrariesHaveOneBase}
use Rattle.execmodel.proofs.BlocksAfter.{Moves, touches, takes, frees, relists, unlinks, sets, enters, queues, hands, opens, releases, counts, expunges, drops}
use Rattle.execmodel.proofs.{Heaps.block_remade, Heaps.found_rid, Heaps.rid, Heaps.filled, Heaps.true_is_not_false, Heaps.object_remade, Heaps.object_placed_here, Heaps.object_placed_there, WithoutFinishing.does_itself, WithoutFinishing.call_works, WellFormed.counted_formed, WellFormed.rid_formed, Stretches.Relation, Stretches.HoldsOfEach, Stretches.of_events, Stretches.of_starts, Stretches.clock_gains, Commands.Touches, Commands.remains, Commands.fills, Commands.puts, Commands.gets, Commands.none_some, LinesOf.body_alters, Taking.IsNew, Taking.Takes, Taking.nothing, Taking.places, Taking.recounts, Taking.yields, Taking.number_is, Posts.IsTidy, Asking.Asks, Asking.writes, Asking.answers, Asking.written, Asking.without_reply, Asking.finishing, RequestsAfter.Works, RequestsAfter.by_moves, RequestsAfter.by_asking, RequestsAfter.by_taking, NoStraysLaw.quietly, NoStraysLaw.switches_quiet, NoStraysLaw.tidies, NoStraysLaw.rescheduled_tidy, NoStraysLaw.booted_tidy}

-- library i is what was found
abbrev Numbered : ℕ → Option Object → Type 0
Numbered i found = is_kind (is_numbered i) found ≡ true

-- each library is found at one address
abbrev Once : Heap → Type 0
Once heap = (i a b : ℕ) → Numbered i (object_at a heap) → Numbered i (object_at b heap) → a ≡ b

-- no library is found if it was not
abbrev NoMore : Heap → Heap → Type 0
NoMore old new = (i a : ℕ) → Numbered i (object_at a new) → Numbered i (object_at a old)

no_more : (heap : Heap) → NoMore heap heap
no_more heap i a is = is

then_no_more : (old mid new : Heap) → NoMore old mid → NoMore mid new → NoMore old new
then_no_more old mid new first next i a is = first i a (next i a is)

still_once : (old new : Heap) → NoMore old new → Once old → Once new
still_once old new less once i a b one other = once i a b (less i a one) (less i b other)

-- ---- what changes objects alone

less_found : (f : Object → Object) → ((i : ℕ) (object : Object) → is_numbered i (f object) ≡ true → is_numbered i object ≡ true) → (i : ℕ) (found : Option Object)
    → Numbered i (option_map f found) → Numbered i found
less_found f less i None is = is
less_found f less i (Some object) is = less i object is

remade_less : (f : Object → Object) → ((i : ℕ) (object : Object) → is_numbered i (f object) ≡ true → is_numbered i object ≡ true) → (heap : Heap)
    → NoMore heap (map (λ (entry : ℕ × Block). (entry.0, record entry.1 { object = f entry.1.object })) heap)
remade_less f less heap i a is = less_found f less i (object_at a heap) (subst (λ found. Numbered i found) (object_remade f a heap) is)

by_test : (test : Bool) (i : ℕ) (object : Object) (found : Option Block) → is_numbered i object ≡ false
    → Numbered i (option_map (λ (block : Block). block.object) (option_map (λ (block : Block). if test then record block { object = object } else block) found))
    → Numbered i (option_map (λ (block : Block). block.object) found)
by_test test i object None none is = is
by_test true i object (Some block) none is = true_is_not_false (sym is ∙ none)
by_test false i object (Some block) none is = is

replaced_less : (address : ℕ) (object : Object) (heap : Heap) → ((i : ℕ) → is_numbered i object ≡ false) → NoMore heap (map (replaced address object) heap)
replaced_less address object heap none i a is =
    by_test (nat_eq a address) i object (block_at a heap) (none i)
    (subst (λ found. Numbered i (option_map (λ (block : Block). block.object) found))
    (block_remade (λ k block. if nat_eq k address then record block { object = object } else block) a heap) is)

left_less : (node i : ℕ) (object : Object) → is_numbered i (left_by node object) ≡ true → is_numbered i object ≡ true
left_less node i (Library number count delayed) is = is
left_less node i _ is = is

task_left_less : (t i : ℕ) (object : Object) → is_numbered i (left_by_task t object) ≡ true → is_numbered i object ≡ true
task_left_less t i (Library number count delayed) is = is
task_left_less t i _ is = is

gone_less : (test : Bool) (i : ℕ) (found : Option Block) → Numbered i (option_map (λ (block : Block). block.object) (cond test found None))
    → Numbered i (option_map (λ (block : Block). block.object) found)
gone_less true i found is = is
gone_less false i found is = true_is_not_false (sym is)

rid_less : (address : ℕ) (heap : Heap) → NoMore heap (rid address heap)
rid_less address heap i a is =
    gone_less (not (nat_eq a address)) i (block_at a heap)
    (subst (λ found. Numbered i (option_map (λ (block : Block). block.object) found)) (found_rid a address heap) is)

-- ---- a library that is counted keeps its number

number_found : (i : ℕ) (object : Object) → is_library object ≡ true → nat_eq (library_number object) i ≡ true → is_numbered i object ≡ true
number_found i (Library number count delayed) is e = e
number_found i _ is e = true_is_not_false (sym is)

counted_found : (test : Bool) (i number count : ℕ) (delayed : Bool) (found : Option Block)
    → (test ≡ true → (is_kind is_library (option_map (λ (block : Block). block.object) found) ≡ true)
    × (number ≡ option_map_or library_number (option_map (λ (block : Block). block.object) found) 0))
    → Numbered i (option_map (λ (block : Block). block.object)
    (option_map (λ (block : Block). if test then record block { object = Library number count delayed } else block) found))
    → Numbered i (option_map (λ (block : Block). block.object) found)
counted_found test i number count delayed None there is = is
counted_found true i number count delayed (Some block) there is =
    let known = there refl in number_found i block.object known.0 (subst (λ n. nat_eq n i ≡ true) known.1 is)
counted_found false i number count delayed (Some block) there is = is

counted_less : (base count : ℕ) (delayed : Bool) (heap : Heap) → is_library_at base heap ≡ true → NoMore heap (with_library base count delayed heap)
unfolding is_library_at library_number_at with_library
counted_less base count delayed heap there i a is =
    counted_found (nat_eq a base) i (library_number_at base heap) count delayed (block_at a heap)
    (λ same. let here : a ≡ base = number_is a base same in (
      subst (λ k. is_kind is_library (object_at k heap) ≡ true) (sym here) there,
      subst (λ k. library_number_at base heap ≡ option_map_or library_number (object_at k heap) 0) (sym here) refl,
    ))
    (subst (λ found. Numbered i (option_map (λ (block : Block). block.object) found))
    (block_remade (λ k block. if nat_eq k base then record block { object = Library (library_number_at base heap) count delayed } else block) a heap) is)

-- ---- a library that is placed was nowhere

first_none : (test : Bool) (entry : ℕ × Block) (others : Option (ℕ × Block)) → option_map (λ (e : ℕ × Block). e.0) (cond test (Some entry) others) ≡ None
    → (test ≡ false) × (option_map (λ (e : ℕ × Block). e.0) others ≡ None)
first_none true entry others e = none_some e
first_none false entry others e = (refl, e)

found_nowhere : (i : ℕ) (heap : Heap) → base_of i heap ≡ None → (b : ℕ) → Numbered i (object_at b heap) → ⊥
unfolding base_of
found_nowhere i [] none b is = true_is_not_false (sym is)
found_nowhere i (entry ∷ rest) none b is =
    let split = first_none (is_numbered i entry.1.object) entry (find (λ (e : ℕ × Block). is_numbered i e.1.object) rest) none in
    cases_eq b entry.0
    (λ same. true_is_not_false (sym (subst (λ found. Numbered i (option_map (λ (block : Block). block.object) found))
    (ap (λ test. cond test (Some entry.1) (block_at entry.0 rest)) (key_same entry.0)) (subst (λ k. Numbered i (object_at k (entry ∷ rest))) same is)) ∙ split.0))
    (λ apart. found_nowhere i rest split.1 b (subst (λ found. Numbered i (option_map (λ (block : Block). block.object) found))
    (ap (λ test. cond test (Some entry.1) (block_at b rest)) (key_other b entry.0 apart)) is))

new_absent : (heap : Heap) (object : Object) → IsNew heap object → (i : ℕ) → is_numbered i object ≡ true → base_of i heap ≡ None
new_absent heap (Library number count delayed) new i is = subst (λ k. base_of k heap ≡ None) (number_is number i is) new
new_absent heap _ new i is = true_is_not_false (sym is)

module _ (address size : ℕ) (object : Object) (heap : Heap) (new : IsNew heap object) (once : Once heap) where
  abbrev placed_heap : Heap
  placed_heap = put_entry nat_cmp address (record { size = size; object = object }) heap

  there : (i a : ℕ) → a ≢ address → Numbered i (object_at a placed_heap) → Numbered i (object_at a heap)
  there i a apart is = subst (λ found. Numbered i found) (object_placed_there a address (record { size = size; object = object }) heap apart) is

  -- it is not both the new object and one that was there
  not_both : (i a b : ℕ) → a ≡ address → b ≢ address → Numbered i (object_at a placed_heap) → Numbered i (object_at b placed_heap) → a ≡ b
  not_both i a b here apart one other =
      let is = subst (λ found. Numbered i found) (ap (λ k. object_at k placed_heap) here ∙ object_placed_here address size object heap) one in
      absurd (found_nowhere i heap (new_absent heap object new i is) b (there i b apart other))

  placed_once : Once placed_heap
  placed_once i a b one other =
      cases_eq a address
      (λ here. cases_eq b address (λ also. here ∙ sym also) (λ apart. not_both i a b here apart one other))
      (λ apart. cases_eq b address (λ also. sym (not_both i b a also apart other one))
      (λ both. once i a b (there i a apart one) (there i b both other)))

-- ---- whatever a call does

takes_once : {asks may_count : Bool} (regions : List Region) (old new : Heap) → Takes asks may_count regions old new → IsWellFormed regions (extents old) → Once old → Once new
takes_once regions old new nothing formed once = once
takes_once regions old new (places size reqs address object is fits) formed once = placed_once address (round size) object old is once
takes_once regions old new (recounts base count delayed there more may rest) formed once =
    let mid = with_library base count delayed old in
    takes_once regions mid new rest (counted_formed regions base count delayed old formed)
    (still_once old mid (counted_less base count delayed old (there formed)) once)
takes_once regions old new (yields base there none may rest) formed once =
    takes_once regions (rid base old) new rest (rid_formed regions base old formed) (still_once old (rid base old) (rid_less base old) once)

touched_less : (old : Heap) (marks : List Mark) (new : Heap) → Touches old marks new → NoMore old new
unfolding with_port appended taken_off
touched_less old marks new remains = no_more old
touched_less old marks new (fills message content there) = replaced_less message (Message content) old (λ i. refl)
touched_less old marks new (puts port message content there also loose) =
    then_no_more old (filled message content old) _ (replaced_less message (Message content) old (λ i. refl))
    (replaced_less port _ (filled message content old) (λ i. refl))
touched_less old marks new (gets port message there e) = replaced_less port _ old (λ i. refl)

written_less : (request : ℕ) (content : TimerRequest) (heap : Heap) → NoMore heap (with_request request content heap)
written_less request content heap =
    written (λ h. NoMore heap h) request content heap (no_more heap) (λ there. replaced_less request (Request content) heap (λ i. refl))

asked_less : (s : State) (marks : List Mark) (new : Heap) (later : List Queued) → Asks s marks new later → NoMore s.memory.heap new
unfolding with_port appended
asked_less s marks new later (writes request content waiting rewritten) = written_less request content s.memory.heap
asked_less s marks new later (answers port request content waiting there rewritten reply) =
    then_no_more s.memory.heap (with_request request content s.memory.heap) _ (written_less request content s.memory.heap)
    (replaced_less port _ (with_request request content s.memory.heap) (λ i. refl))

taken_less : (port request : ℕ) (heap : Heap) → NoMore heap (without_reply port request heap)
unfolding with_port
taken_less port request heap = replaced_less port _ heap (λ i. refl)

moves_once : {asks : Bool} (regions : List Region) (t : ℕ) (call : Call) (old : Heap) (marks : List Mark) (new : Heap) → Moves asks regions t call old marks new
    → IsWellFormed regions (extents old) → Once old → Once new
unfolding with_nodes unlinked with_action with_port with_semaphore entered queued dropped handed_on released_once
moves_once regions t call old marks new (touches how) formed once = still_once old new (touched_less old marks new how) once
moves_once regions t call old marks new (takes how) formed once = takes_once regions old new how formed once
moves_once regions t call old marks new (frees address may unneeded) formed once = still_once old new (rid_less address old) once
moves_once regions t call old marks new (relists list nodes there) formed once = still_once old new (replaced_less list (ListHead nodes) old (λ i. refl)) once
moves_once regions t call old marks new (unlinks node) formed once = still_once old new (remade_less (left_by node) (left_less node) old) once
moves_once regions t call old marks new (sets act port there) formed once = still_once old new (replaced_less port _ old (λ i. refl)) once
moves_once regions t call old marks new (enters semaphore there e) formed once = still_once old new (replaced_less semaphore _ old (λ i. refl)) once
moves_once regions t call old marks new (queues semaphore there e) formed once = still_once old new (replaced_less semaphore _ old (λ i. refl)) once
moves_once regions t call old marks new (hands semaphore owner release there last e) formed once =
    still_once old new (replaced_less semaphore _ old (λ i. refl)) once
moves_once regions t call old marks new (opens semaphore release there last e) formed once =
    still_once old new (replaced_less semaphore _ old (λ i. refl)) once
moves_once regions t call old marks new (releases semaphore there last) formed once = still_once old new (replaced_less semaphore _ old (λ i. refl)) once
moves_once regions t call old marks new (counts base count delayed there may) formed once =
    still_once old new (counted_less base count delayed old (there formed)) once
moves_once regions t call old marks new (expunges base there may) formed once = still_once old new (rid_less base old) once
moves_once regions t call old marks new (drops other apart) formed once =
    still_once old new (remade_less (left_by_task other) (task_left_less other) old) once

works_once : (t : ℕ) (call : Call) (s : State) (o : Outcome) → Works t call s o → IsTidy s → Once s.memory.heap → Once o.state.memory.heap
works_once t call s o (by_moves makes same) tidy =
    moves_once s.memory.regions t call s.memory.heap o.marks o.state.memory.heap makes.1 tidy.formed
works_once t call s o (by_asking regions asks) tidy =
    still_once s.memory.heap o.state.memory.heap (asked_less s o.marks o.state.memory.heap o.state.memory.timer.waiting asks)
works_once t call s o (by_taking port request regions same marks heap lives) tidy =
    subst (λ h. Once s.memory.heap → Once h) (sym heap)
    (still_once s.memory.heap (without_reply port request s.memory.heap) (taken_less port request s.memory.heap))

-- ---- over every run

-- a state that is tidy stays so, and each library stays at one base
abbrev Bases : Relation
Bases old marks new = IsTidy old × Once old.memory.heap → IsTidy new × Once new.memory.heap

-- only the schedule changes
rescheduling : (s r : State) → r.memory ≡ s.memory → Bases s [] r
rescheduling s r same holds = (rescheduled_tidy s r same holds.0, subst (λ (m : Memory). Once m.heap) (sym same) holds.1)

bases : HoldsOfEach Bases
unfolding ends
bases = record {
  interrupting = record {
    nothing = λ s holds. holds;
    joined = λ s some r more q first next holds. next (first holds);
    commanding = λ name command s holds. (
      tidies.interrupting.commanding name command s holds.0,
      still_once s.memory.heap (body_step name command s).state.memory.heap
          (touched_less s.memory.heap (body_step name command s).marks (body_step name command s).state.memory.heap (body_alters name command s).blocks) holds.1,
    );
    pending = λ f s. rescheduling s _ refl;
    finishing = λ request s waits holds. (
      tidies.interrupting.finishing request s waits holds.0,
      still_once s.memory.heap (finishes request s).state.memory.heap
          (asked_less s _ (finishes request s).state.memory.heap (finishes request s).state.memory.timer.waiting (finishing request s waits).asks) holds.1,
    );
    looking = λ s holds. (tidies.interrupting.looking s holds.0, holds.1);
    ticking = λ s. rescheduling s _ refl;
    switching = λ s. quietly Bases s (switches s) (on_schedule (rescheduled by_arrival) s) (switches_quiet s) (rescheduling s _ refl);
  };
  adding = λ t s less. rescheduling s _ refl;
  calling = λ t call s runs is holds. (
    tidies.calling t call s runs is holds.0,
    works_once t call s (does_itself t call s) (call_works t call s) holds.0 holds.1,
  );
  ending = λ t s runs. rescheduling s _ refl;
}

clocked : (s : State) → Bases s [] (clock_gains s)
clocked s holds = (record { formed = holds.0.formed; order = holds.0.order }, holds.1)

booted_once : (machine : MachineData) → Once (booted machine).memory.heap
unfolding booted
booted_once machine i a b one other = true_is_not_false (sym one)

run_once : (machine : MachineData) (list : List Event) → IsMachine machine → Once (run machine list).state.memory.heap
unfolding run andthen
run_once machine list is =
    (of_events Bases bases clocked list (starts (booted machine)).state
    (of_starts Bases bases (booted machine) (booted_tidy machine is, booted_once machine))).1

-- the library at a base is that of its number
numbered_there : (i : ℕ) (found : Option Object) → is_kind is_library found ≡ true → option_map_or library_number found 0 ≡ i → Numbered i found
numbered_there i None is e = true_is_not_false (sym is)
numbered_there i (Some object) is e = number_found i object is (ap (λ n. nat_eq n i) e ∙ nat_eq-same i)

pub libraries_have_one_base : LibrariesHaveOneBase
unfolding is_library_at library_number_at
libraries_have_one_base a b machine list is one other same =
    let heap = (run machine list).state.memory.heap in
    run_once machine list is (library_number_at a heap) a b (numbered_there (library_number_at a heap) (object_at a heap) one refl)
    (numbered_there (library_number_at a heap) (object_at b heap) other (sym same))
