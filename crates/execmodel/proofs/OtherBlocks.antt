-- Words on libraries, and words on memory, leave the blocks of all other objects as they are.
use Rattle.std.proofs.Common.{◌⊎◌, inl, inr, ◌≡◌, ◌≢◌, ℕ, Bool, true, false, [], List, Option, None, Some, refl, sym, ap, ◌∙◌, subst, ◌&&◌, if◌then◌else◌, nat_eq, unwrap_or, option_map, nat_cmp}
use Rattle.std.specs.FinMap.{put as put_entry}
use Rattle.memlist.specs.{declared.region.Region.Region, Fit.fit, Memory.IsWellFormed}
use Rattle.memlist.proofs.Answered.{cases_eq}
use Rattle.script.specs.declared.alert.Alert.{Alert}
use Rattle.script.specs.declared.word.libraries.LibraryWord.{LibraryWord}
use Rattle.script.specs.declared.word.libraries.LibraryWord.TheVariants as libraries
use Rattle.script.specs.declared.word.memory.MemoryWord.{MemoryWord}
use Rattle.script.specs.declared.word.memory.MemoryWord.TheVariants as memory
use Rattle.execlib.specs.Libraries.{public_memory}
use Rattle.execmodel.specs.State.{Call, Object, Plain, Library, Block, Heap, Memory, State, Outcome}
use Rattle.execmodel.specs.Libraries.{is_library, is_library_at, count_of, is_delayed, with_library, after_expunge, base_of, library_at, library_to_open, entered_or_loaded, library_opened, ready_to_load, ready_to_open, opened, closed, close_alert, library_alert, does_libraries, does_open_library, does_close_library, does_rem_library, does_lib_open_cnt}
use Rattle.execmodel.specs.{Calls.argument, Calls.name_argument, Calls.answered, Calls.alerted, Calls.done, Calls.unless, Deeds.performs, LowMemory.after_asking, LowMemory.after_asking_for_object, Memory.memory_deed, Memory.is_plain, Memory.is_named, Memory.free_alert, Memory.alloc_alert, Memory.avail_alert, Memory.does_memory, Objects.object_at, Objects.is_kind, Objects.is_allowed, Objects.place_for_object, Places.block_at, Places.extents, Places.freed, Places.place_for, Places.placed, Step.run, OtherBlocks.LeavesOtherBlocks, OtherBlocks.LibraryWordsLeaveOtherBlocks, OtherBlocks.MemoryWordsLeaveOtherBlocks}
use Rattle.execmodel.proofs.Libraries.{block_elsewhere, block_rid_there, block_placed_there}
use Rattle.execmodel.proofs.{Heaps.rid, Heaps.true_is_not_false, Heaps.object_placed_here, Commands.none_some, Commands.passed_first, WellFormed.placed_fresh, WellFormed.counted_formed, WellFormed.rid_formed, LowMemory.asking_keeps, LowMemoryLaw.asking_leaves_others, Loaded.base_is_loaded, BlocksAfter.is_library_there, Posts.IsTidy, Taking.HoldsBefore, Taking.asking_before, NoStraysLaw.tidy_in_every_state}

-- ---- an address with another object

no_block : (found : Option Block) → option_map (λ (block : Block). block.object) found ≡ None → found ≡ None
no_block None e = refl
no_block (Some block) e = none_some e

-- a kind of object is at one address, and not at the other
pub apart_by : (kind : Object → Bool) (a other : ℕ) (heap : Heap) → is_kind kind (object_at a heap) ≡ false
    → is_kind kind (object_at other heap) ≡ true → a ≢ other
apart_by kind a other heap none is = λ same.
    true_is_not_false (sym is ∙ ap (λ k. is_kind kind (object_at k heap)) (sym same) ∙ none)

-- an object of the kind is placed where a block fits
placed_leaves : (kind : Object → Bool) (regions : List Region) (size reqs length address : ℕ) (object : Object) (a : ℕ) (heap : Heap)
    → kind object ≡ true → IsWellFormed regions (extents heap) → fit regions (extents heap) size reqs ≡ Some address
    → (block_at a (put_entry nat_cmp address (record { size = length; object = object }) heap) ≡ block_at a heap)
    ⊎ ((block_at a heap ≡ None) × (is_kind kind (object_at a (put_entry nat_cmp address (record { size = length; object = object }) heap)) ≡ true))
placed_leaves kind regions size reqs length address object a heap is formed fits =
    cases_eq a address
    (λ same. inr (
      no_block (block_at a heap) (ap (λ k. object_at k heap) same ∙ placed_fresh regions size reqs address heap formed fits),
      ap (λ k. is_kind kind (object_at k (put_entry nat_cmp address (record { size = length; object = object }) heap))) same
          ∙ ap (λ found. is_kind kind found) (object_placed_here address length object heap)
          ∙ is,
    ))
    (λ apart. inl (block_placed_there a address _ heap apart))

-- ---- the memory after libraries were asked

formed_before : (regions : List Region) (new : Heap)
    → HoldsBefore regions (λ heap. IsWellFormed regions (extents heap) → IsWellFormed regions (extents new))
formed_before regions new = record {
  marking = λ base heap there rest formed. rest (counted_formed regions base (count_of base heap) true heap formed);
  freeing = λ base heap there none rest formed. rest (rid_formed regions base heap formed);
}

asking_formed : (size reqs : ℕ) (memory : Memory) → IsWellFormed memory.regions (extents memory.heap)
    → IsWellFormed memory.regions (extents (after_asking size reqs memory).heap)
asking_formed size reqs memory =
    asking_before memory.regions _ size reqs memory (λ asks. formed_before memory.regions (after_asking size reqs memory).heap) (λ formed. formed)

asking_regions : (size reqs : ℕ) (memory : Memory) → (after_asking size reqs memory).regions ≡ memory.regions
asking_regions size reqs memory = ap (λ (m : Memory). m.regions) (asking_keeps size reqs memory)

-- What was asked is formed, has the same regions, and has each block that is not a library's.
pub record IsAsked (a : ℕ) (memory asked : Memory) : Type 0 where
  pub regions : asked.regions ≡ memory.regions
  pub formed : IsWellFormed memory.regions (extents asked.heap)
  pub same : block_at a asked.heap ≡ block_at a memory.heap

pub after_asking_is : (size reqs a : ℕ) (memory : Memory) → IsWellFormed memory.regions (extents memory.heap) → is_library_at a memory.heap ≡ false
    → IsAsked a memory (after_asking size reqs memory)
after_asking_is size reqs a memory formed none = record {
  regions = asking_regions size reqs memory;
  formed = asking_formed size reqs memory formed;
  same = asking_leaves_others size reqs memory formed a none;
}

pub alike_kind : (kind : Object → Bool) (a : ℕ) (old new : Heap) → block_at a new ≡ block_at a old
    → is_kind kind (object_at a new) ≡ is_kind kind (object_at a old)
alike_kind kind a old new e = ap (λ found. is_kind kind (option_map (λ (block : Block). block.object) found)) e

-- what a block becomes
abbrev pub Becomes : (Object → Bool) → ℕ → Heap → Heap → Type 0
Becomes kind a old new = (block_at a new ≡ block_at a old) ⊎ ((block_at a old ≡ None) × (is_kind kind (object_at a new) ≡ true))

-- first libraries are asked, and then something is done
once_asked : (kind : Object → Bool) (a : ℕ) (old mid new : Heap) → block_at a mid ≡ block_at a old → Becomes kind a mid new → Becomes kind a old new
once_asked kind a old mid new same (inl e) = inl (e ∙ same)
once_asked kind a old mid new same (inr (none, is)) = inr (sym same ∙ none, is)

-- an object takes memory after libraries were asked
pub allotted_leaves : (kind : Object → Bool) (size reqs : ℕ) (object : Object) (place : Option ℕ) (a : ℕ) (memory asked : Memory) → IsAsked a memory asked
    → kind object ≡ true → place_for size reqs asked ≡ place → Becomes kind a memory.heap (placed size object place asked).heap
allotted_leaves kind size reqs object None a memory asked is of_kind fits = inl is.same
allotted_leaves kind size reqs object (Some address) a memory asked is of_kind fits =
    once_asked kind a memory.heap asked.heap _ is.same
    (placed_leaves kind memory.regions size reqs _ address object a asked.heap of_kind is.formed
    (subst (λ regions. fit regions (extents asked.heap) size reqs ≡ Some address) is.regions fits))

-- ---- words on libraries

module _ (s : State) (tidy : IsTidy s) (a : ℕ) (none : is_library_at a s.memory.heap ≡ false) where
  abbrev pub heap : Heap
  heap = s.memory.heap

  abbrev pub BecomesIn : (Object → Bool) → State → Type 0
  BecomesIn kind r = Becomes kind a heap r.memory.heap

  pub refused_leaves : (kind : Object → Bool) (alert : Option Alert) (t : ℕ) (call : Call) (effect : State → Outcome)
      → (alert ≡ None → BecomesIn kind (effect s).state) → BecomesIn kind (unless alert t call effect s).state
  unfolding alerted
  refused_leaves kind None t call effect passing = passing refl
  refused_leaves kind (Some code) t call effect passing = inl refl

  pub either_leaves : (kind : Object → Bool) (test : Bool) (o p : Outcome) → BecomesIn kind o.state → BecomesIn kind p.state
      → BecomesIn kind (if test then o else p).state
  either_leaves kind true o p one other = one
  either_leaves kind false o p one other = other

  -- an object is made after libraries were asked, if the pool allows one more
  either_asked : (test : Bool) (m : Memory) → IsAsked a s.memory m → IsAsked a s.memory (if test then m else s.memory)
  either_asked true m asked = asked
  either_asked false m asked = record { regions = refl; formed = tidy.formed; same = refl }

  pub asked_for : (kind : Object → Bool) (size : ℕ) → IsAsked a s.memory (after_asking_for_object kind size s.memory)
  unfolding after_asking_for_object
  asked_for kind size =
      either_asked (is_allowed kind s.memory) (after_asking size public_memory s.memory)
      (after_asking_is size public_memory a s.memory tidy.formed none)

  either_placed : (kinds : Object → Bool) (test : Bool) (size : ℕ) (object : Object) (asked : Memory) → IsAsked a s.memory asked → kinds object ≡ true
      → Becomes kinds a heap (placed size object (if test then place_for size public_memory asked else None) asked).heap
  either_placed kinds true size object asked is of_kind = allotted_leaves kinds size public_memory object _ a s.memory asked is of_kind refl
  either_placed kinds false size object asked is of_kind = inl is.same

  pub placed_object_leaves : (kinds kind : Object → Bool) (size : ℕ) (object : Object) (asked : Memory) → IsAsked a s.memory asked → kinds object ≡ true
      → Becomes kinds a heap (placed size object (place_for_object kind size asked) asked).heap
  unfolding place_for_object
  placed_object_leaves kinds kind size object asked is of_kind = either_placed kinds (is_allowed kind asked) size object asked is of_kind

  pub made_leaves : (kinds kind : Object → Bool) (size : ℕ) (object : Object) → kinds object ≡ true
      → Becomes kinds a heap
      (placed size object (place_for_object kind size (after_asking_for_object kind size s.memory)) (after_asking_for_object kind size s.memory)).heap
  made_leaves kinds kind size object of_kind =
      placed_object_leaves kinds kind size object (after_asking_for_object kind size s.memory) (asked_for kind size) of_kind

  -- a library at another address is counted, or freed
  counted_leaves : (base count : ℕ) (delayed : Bool) → is_library_at base heap ≡ true → Becomes is_library a heap (with_library base count delayed heap)
  unfolding is_library_at with_library
  counted_leaves base count delayed is = inl (block_elsewhere a base _ heap (apart_by is_library a base heap none is))

  freed_leaves : (base : ℕ) → is_library_at base heap ≡ true → Becomes is_library a heap (rid base heap)
  unfolding is_library_at
  freed_leaves base is = inl (block_rid_there a base heap (apart_by is_library a base heap none is))

  either_memory_leaves : (test : Bool) (m n : Memory) → Becomes is_library a heap m.heap → Becomes is_library a heap n.heap
      → Becomes is_library a heap (if test then m else n).heap
  either_memory_leaves true m n one other = one
  either_memory_leaves false m n one other = other

  asked_to_load : (found : Option ℕ) (i : ℕ) → IsAsked a s.memory (ready_to_load found i s.memory)
  asked_to_load None i = after_asking_is (library_at i s.memory).size public_memory a s.memory tidy.formed none
  asked_to_load (Some base) i = record { regions = refl; formed = tidy.formed; same = refl }

  asked_to_open : (found : Option ℕ) → IsAsked a s.memory (ready_to_open found s.memory)
  unfolding ready_to_open
  asked_to_open None = record { regions = refl; formed = tidy.formed; same = refl }
  asked_to_open (Some i) = asked_to_load (base_of i heap) i

  entered_leaves : (at : Option ℕ) (i : ℕ) (asked : Memory) → IsAsked a s.memory asked → base_of i asked.heap ≡ at
      → Becomes is_library a heap (entered_or_loaded at i asked).heap
  unfolding is_library_at with_library
  entered_leaves None i asked is there =
      allotted_leaves is_library (library_at i asked).size public_memory (Library i 1 false) _ a s.memory asked is refl refl
  entered_leaves (Some base) i asked is there =
      once_asked is_library a heap asked.heap _ is.same
      (inl (block_elsewhere a base _ asked.heap
      (apart_by is_library a base asked.heap (alike_kind is_library a heap asked.heap is.same ∙ none)
      (base_is_loaded s.memory.regions i base asked.heap is.formed there))))

  opened_leaves : (found : Option ℕ) (asked : Memory) → IsAsked a s.memory asked → Becomes is_library a heap (library_opened found asked).heap
  opened_leaves None asked is = inl is.same
  opened_leaves (Some i) asked is = entered_leaves (base_of i asked.heap) i asked is refl

  library_leaves : (word : LibraryWord) (t : ℕ) (call : Call) → BecomesIn is_library (does_libraries word t call s).state
  unfolding does_open_library does_close_library does_rem_library does_lib_open_cnt opened closed after_expunge close_alert library_alert answered done
  library_leaves libraries.OpenLibrary t call =
      let found = library_to_open (unwrap_or (name_argument 0 call) []) (argument 1 call) s.memory in
      opened_leaves found (ready_to_open found s.memory) (asked_to_open found)
  library_leaves libraries.CloseLibrary t call =
      let base = argument 0 call in
      either_leaves is_library (nat_eq base 0) _ _ (inl refl)
      (refused_leaves is_library (close_alert base heap) t call _
      (λ passes. let is = (passed_first (is_library_at base heap) _ _ passes).0 in
      either_memory_leaves (nat_eq (count_of base heap) 1 && is_delayed base heap) (freed base s.memory) _
      (freed_leaves base is) (counted_leaves base _ _ is)))
  library_leaves libraries.RemLibrary t call =
      let base = argument 0 call in
      refused_leaves is_library (library_alert base heap) t call _
      (λ passes. let is = is_library_there (is_library_at base heap) _ passes in
      either_memory_leaves (nat_eq (count_of base heap) 0) (freed base s.memory) _ (freed_leaves base is) (counted_leaves base _ true is))
  library_leaves libraries.LibOpenCnt t call = refused_leaves is_library (library_alert (argument 0 call) heap) t call _ (λ passes. inl refl)

  -- ---- words on memory

  named_plain : (size : ℕ) (found : Option Block) → is_named size found ≡ true
      → is_kind is_plain (option_map (λ (block : Block). block.object) found) ≡ true
  named_plain size None is = is
  named_plain size (Some block) is = first_of (is_plain block.object) _ _ is
    where
      first_of : (b c d : Bool) → (b && c && d) ≡ true → b ≡ true
      first_of true c d e = refl
      first_of false c d e = e

  memory_leaves : (word : MemoryWord) (t : ℕ) (call : Call) → is_kind is_plain (object_at a heap) ≡ false
      → BecomesIn is_plain (does_memory word t call s).state
  unfolding performs memory_deed answered done
  memory_leaves memory.AllocMem t call apart =
      let size = argument 0 call in
      let reqs = argument 1 call in
      refused_leaves is_plain (alloc_alert reqs) t call _
      (λ passes. allotted_leaves is_plain size reqs Plain _ a s.memory (after_asking size reqs s.memory)
      (after_asking_is size reqs a s.memory tidy.formed none) refl refl)
  memory_leaves memory.FreeMem t call apart =
      let address = argument 0 call in
      refused_leaves is_plain (free_alert address (argument 1 call) heap) t call _
      (λ passes. inl (block_rid_there a address heap
      (apart_by is_plain a address heap apart
      (named_plain (argument 1 call) (block_at address heap) (is_library_there (is_named (argument 1 call) (block_at address heap)) _ passes)))))
  memory_leaves memory.AvailMem t call apart = refused_leaves is_plain (avail_alert (argument 0 call)) t call _ (λ passes. inl refl)

pub library_words_leave_other_blocks : LibraryWordsLeaveOtherBlocks
library_words_leave_other_blocks word t call machine list is = record {
  others = λ a apart none. library_leaves (run machine list).state (tidy_in_every_state machine list is) a none word t call;
}

pub memory_words_leave_other_blocks : MemoryWordsLeaveOtherBlocks
memory_words_leave_other_blocks word t call machine list is = record {
  others = λ a apart none. memory_leaves (run machine list).state (tidy_in_every_state machine list is) a none word t call apart;
}
