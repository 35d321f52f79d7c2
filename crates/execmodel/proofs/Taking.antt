-- What a call that takes memory makes of the blocks: libraries are asked for memory, one after another, and then an
-- object is placed, or an opening of a library is counted, or nothing.
use Rattle.std.proofs.Common.{◌⊎◌, inl, ◌≡◌, ℕ, ◌≤◌, Bool, true, false, List, [], ◌∷◌, Option, None, Some, refl, sym, ap, ◌∙◌, subst, arith, not, ◌&&◌, if◌then◌else◌, nat_eq, is_some, length, nat_cmp}
use Rattle.std.specs.{List.range_with_len, FinMap.put as put_entry}
use Rattle.memlist.specs.{declared.region.Region.Region, Fit.fit, Fit.round, Memory.IsWellFormed}
use Rattle.memlist.proofs.Answered.{nat_eq-other, cases_eq}
use Rattle.sigsem.specs.Semaphores.{free_sem}
use Rattle.iorequest.specs.Request.{is_under_way}
use Rattle.execmodel.specs.{State.Object, State.ListHead, State.MsgPort, State.Semaphore, State.Library, State.Request, State.Heap, State.Memory, State.State, State.Outcome, State.on_memory, Places.extents, Places.place_for, Places.freed, Objects.is_allowed, Loaded.is_library_at, Loaded.count_of, Loaded.with_library, Loaded.base_of, Loaded.after_expunge, LowMemory.gives_way_at, LowMemory.gives_way, LowMemory.asked_one, LowMemory.asked_each, LowMemory.after_asking, LowMemory.after_asking_for_object, Ports.is_port, Ports.port_size, Ports.after_asking_for_port, Libraries.library_at, Libraries.ready_to_load, Libraries.ready_to_open, Keeping.without_blocks}
use Rattle.execlib.specs.Libraries.{public_memory}
use Rattle.execmodel.proofs.{Heaps.rid, Heaps.true_is_not_false, Loaded.base_is_loaded, LowMemory.asking_keeps, LowMemory.asking_for_object_keeps}

-- a new object: an empty list or port, a semaphore that no task owns and none waits for, a library that was at no base,
-- a request that is not in progress, or what has no queue
abbrev pub IsNew : Heap → Object → Type 0
IsNew heap (ListHead nodes) = nodes ≡ []
IsNew heap (MsgPort port messages) = messages ≡ []
IsNew heap (Semaphore sem waiters) = (sem ≡ free_sem) × (waiters ≡ [])
IsNew heap (Library number count delayed) = base_of number heap ≡ None
IsNew heap (Request content) = is_under_way content ≡ false
IsNew heap _ = Unit {0}

-- Taking memory ends if nothing changes or an object is placed; before that a library is marked or open once more, or
-- one that is not open is freed, if libraries are asked at all. It is open once more, or marked if none is asked, only
-- if the call is one that counts openings. A library begins at its base if the blocks are well formed.
pub data Takes (asks may_count : Bool) (regions : List Region) : Heap → Heap → Type 0 where
  nothing : {heap : Heap} → Takes asks may_count regions heap heap
  places : {heap : Heap} (size reqs address : ℕ) (object : Object) → IsNew heap object → fit regions (extents heap) size reqs ≡ Some address
      → Takes asks may_count regions heap (put_entry nat_cmp address (record { size = round size; object = object }) heap)
  recounts : {old new : Heap} (base count : ℕ) (delayed : Bool) → (IsWellFormed regions (extents old) → is_library_at base old ≡ true)
      → count_of base old ≤ count → (asks ≡ true) ⊎ (may_count ≡ true) → Takes asks may_count regions (with_library base count delayed old) new
      → Takes asks may_count regions old new
  yields : {old new : Heap} (base : ℕ) → (IsWellFormed regions (extents old) → is_library_at base old ≡ true) → count_of base old ≡ 0
      → asks ≡ true → Takes asks may_count regions (rid base old) new → Takes asks may_count regions old new

-- an outcome takes memory so, leaves no mark, and leaves the regions as they are
pub record IsTaking (may_count : Bool) (s : State) (o : Outcome) : Type 0 where
  pub regions : o.state.memory.regions ≡ s.memory.regions
  pub silent : o.marks ≡ []
  pub blocks : Takes s.memory.asks may_count s.memory.regions s.memory.heap o.state.memory.heap

-- ---- libraries are asked for memory

pub number_is : (n k : ℕ) → nat_eq n k ≡ true → n ≡ k
number_is n k e = cases_eq n k (λ same. same) (λ apart. true_is_not_false (sym e ∙ nat_eq-other n k apart))

-- Something holds of blocks before libraries are asked, if it does after: it holds before a library is marked that is
-- open, and before one is freed that is not, if it holds then.
pub record HoldsBefore (regions : List Region) (Holds : Heap → Type 0) : Type 0 where
  pub marking : (base : ℕ) (heap : Heap) → (IsWellFormed regions (extents heap) → is_library_at base heap ≡ true)
      → Holds (with_library base (count_of base heap) true heap) → Holds heap
  pub freeing : (base : ℕ) (heap : Heap) → (IsWellFormed regions (extents heap) → is_library_at base heap ≡ true) → count_of base heap ≡ 0
      → Holds (rid base heap) → Holds heap

either_before : (Holds : Heap → Type 0) (test : Bool) (m n memory : Memory) → (test ≡ true → Holds m.heap → Holds memory.heap)
    → (test ≡ false → Holds n.heap → Holds memory.heap) → Holds (if test then m else n).heap → Holds memory.heap
either_before Holds true m n memory one other holds = one refl holds
either_before Holds false m n memory one other holds = other refl holds

module _ (regions : List Region) (Holds : Heap → Type 0) (before : HoldsBefore regions Holds) where
  removed_before : (base : ℕ) (memory : Memory) → (IsWellFormed regions (extents memory.heap) → is_library_at base memory.heap ≡ true)
      → Holds (after_expunge base memory).heap → Holds memory.heap
  unfolding after_expunge
  removed_before base memory there =
      either_before Holds (nat_eq (count_of base memory.heap) 0) (freed base memory) _ memory
      (λ e. before.freeing base memory.heap there (number_is (count_of base memory.heap) 0 e)) (λ e. before.marking base memory.heap there)

  gave_way_before : (found : Option ℕ) (i : ℕ) (memory : Memory) → base_of i memory.heap ≡ found
      → Holds (gives_way_at found memory).heap → Holds memory.heap
  gave_way_before None i memory e holds = holds
  gave_way_before (Some base) i memory e holds =
      removed_before base memory (λ formed. base_is_loaded regions i base memory.heap formed e) holds

  gives_way_before : (i : ℕ) (memory : Memory) → Holds (gives_way i memory).heap → Holds memory.heap
  unfolding gives_way
  gives_way_before i memory = gave_way_before (base_of i memory.heap) i memory refl

  each_before : (size reqs : ℕ) (numbers : List ℕ) (memory : Memory) → Holds (asked_each size reqs numbers memory).heap → Holds memory.heap
  each_before size reqs [] memory holds = holds
  each_before size reqs (i ∷ others) memory holds =
      either_before Holds (is_some (place_for size reqs memory)) memory (gives_way i memory) memory (λ e asked. asked) (λ e. gives_way_before i memory)
      (each_before size reqs others (asked_one size reqs i memory) holds)

first_true : (b c : Bool) → (b && c) ≡ true → b ≡ true
first_true true c e = refl
first_true false c e = e

pub asking_before : (regions : List Region) (Holds : Heap → Type 0) (size reqs : ℕ) (memory : Memory) → (memory.asks ≡ true → HoldsBefore regions Holds)
    → Holds (after_asking size reqs memory).heap → Holds memory.heap
unfolding after_asking
asking_before regions Holds size reqs memory before =
    either_before Holds (memory.asks && not (nat_eq size 0)) _ memory memory
    (λ e. each_before regions Holds (before (first_true memory.asks _ e)) size reqs (range_with_len 0 (length memory.libraries)) memory) (λ e same. same)

asking_for_object_before : (regions : List Region) (Holds : Heap → Type 0) (kind : Object → Bool) (size : ℕ) (memory : Memory)
    → (memory.asks ≡ true → HoldsBefore regions Holds) → Holds (after_asking_for_object kind size memory).heap → Holds memory.heap
unfolding after_asking_for_object
asking_for_object_before regions Holds kind size memory before =
    either_before Holds (is_allowed kind memory) _ memory memory (λ e. asking_before regions Holds size public_memory memory before) (λ e same. same)

-- blocks of which a call takes memory
takes_before : (asks may_count : Bool) (regions : List Region) (new : Heap) → asks ≡ true
    → HoldsBefore regions (λ heap. Takes asks may_count regions heap new)
takes_before asks may_count regions new asked = record {
  marking = λ base heap there rest. recounts base (count_of base heap) true there (omega arith) (inl asked) rest;
  freeing = λ base heap there none rest. yields base there none asked rest;
}

-- ---- what a call takes after libraries were asked, it takes

once_asked : {may_count : Bool} (asked : Memory) (s : State) (o : Outcome) → without_blocks asked ≡ without_blocks s.memory
    → (Takes s.memory.asks may_count s.memory.regions asked.heap o.state.memory.heap → Takes s.memory.asks may_count s.memory.regions s.memory.heap o.state.memory.heap)
    → IsTaking may_count (on_memory (λ memory. asked) s) o → IsTaking may_count s o
once_asked {may_count} asked s o same all taking = record {
  regions = taking.regions ∙ ap (λ (memory : Memory). memory.regions) same;
  silent = taking.silent;
  blocks = all (subst (λ (memory : Memory). Takes memory.asks may_count memory.regions asked.heap o.state.memory.heap) same taking.blocks);
}

pub after_asking_taking : {may_count : Bool} (size reqs : ℕ) (s : State) (o : Outcome) → IsTaking may_count (on_memory (after_asking size reqs) s) o → IsTaking may_count s o
after_asking_taking {may_count} size reqs s o taking =
    once_asked (after_asking size reqs s.memory) s o (asking_keeps size reqs s.memory)
    (asking_before s.memory.regions _ size reqs s.memory (takes_before s.memory.asks may_count s.memory.regions o.state.memory.heap)) taking

pub after_asking_for_object_taking : {may_count : Bool} (kind : Object → Bool) (size : ℕ) (s : State) (o : Outcome)
    → IsTaking may_count (on_memory (after_asking_for_object kind size) s) o → IsTaking may_count s o
after_asking_for_object_taking {may_count} kind size s o taking =
    once_asked (after_asking_for_object kind size s.memory) s o (asking_for_object_keeps kind size s.memory)
    (asking_for_object_before s.memory.regions _ kind size s.memory (takes_before s.memory.asks may_count s.memory.regions o.state.memory.heap)) taking

pub after_asking_for_port_taking : {may_count : Bool} (bit : Option ℕ) (s : State) (o : Outcome) → IsTaking may_count (on_memory (after_asking_for_port bit) s) o → IsTaking may_count s o
after_asking_for_port_taking None s o taking = taking
after_asking_for_port_taking (Some bit) s o taking = after_asking_for_object_taking is_port port_size s o taking

ready_to_load_taking : {may_count : Bool} (found : Option ℕ) (i : ℕ) (s : State) (o : Outcome) → IsTaking may_count (on_memory (ready_to_load found i) s) o → IsTaking may_count s o
ready_to_load_taking None i s o taking = after_asking_taking (library_at i s.memory).size public_memory s o taking
ready_to_load_taking (Some base) i s o taking = taking

pub ready_to_open_taking : {may_count : Bool} (found : Option ℕ) (s : State) (o : Outcome) → IsTaking may_count (on_memory (ready_to_open found) s) o → IsTaking may_count s o
unfolding ready_to_open
ready_to_open_taking None s o taking = taking
ready_to_open_taking (Some i) s o taking = ready_to_load_taking (base_of i s.memory.heap) i s o taking
