-- Libraries are asked for memory as far as a block needs it, and only those that are not open are expunged.
use Rattle.std.proofs.Common.{inl, inr, ◌≡◌, ◌≢◌, ℕ, zero, suc, ◌+◌, ◌<◌, ◌≤◌, Bool, true, false, List, [], ◌∷◌, Option, None, Some, refl, sym, ap, ◌∙◌, subst, arith, not, ◌&&◌, if◌then◌else◌, nat_eq, is_some, length, option_map}
use Rattle.std.specs.List.{range_with_len}
use Rattle.memlist.specs.{declared.region.Region.Region, Memory.IsWellFormed}
use Rattle.memlist.proofs.Answered.{nat_eq-other, cases_eq}
use Rattle.execmodel.specs.{State.Block, State.Heap, State.Memory, Objects.is_kind, Places.extents, Places.block_at, Places.place_for, Loaded.is_library, Loaded.is_library_at, Loaded.count_of, Loaded.with_library, LowMemory.gives_way, LowMemory.asked_each, LowMemory.after_asking, Step.run, Laws.StaysLoaded, Laws.first_gave_way, Laws.AsksAsFarAsNeeded, Laws.LibrariesGiveWayAsFarAsNeeded, Laws.OnlyClosedLibrariesGo, Laws.OnlyClosedLibrariesGiveWay}
use Rattle.execmodel.proofs.Libraries.{still, joined, same_count, block_elsewhere, block_rid_there, counted, counted_open, never}
use Rattle.execmodel.proofs.{Heaps.rid, Heaps.true_is_not_false, Taking.HoldsBefore, Taking.asking_before, WellFormed.counted_formed, WellFormed.rid_formed, NoStraysLaw.tidy_in_every_state}

-- ---- as far as needed

-- nothing is asked of the libraries that are left, if the block has a place
fits_stays : (size reqs : ℕ) (numbers : List ℕ) (memory : Memory) → is_some (place_for size reqs memory) ≡ true
    → asked_each size reqs numbers memory ≡ memory
fits_stays size reqs [] memory fits = refl
fits_stays size reqs (i ∷ others) memory fits =
    ap (λ b. asked_each size reqs others (if b then memory else gives_way i memory)) fits ∙ fits_stays size reqs others memory fits

none_there : (found : Option ℕ) → is_some found ≡ false → found ≡ None
none_there None e = refl
none_there (Some address) e = true_is_not_false e

module _ (size reqs : ℕ) (memory : Memory) where
  abbrev gave : ℕ → Memory
  gave k = first_gave_way k memory

  -- no fewer than k were enough
  abbrev Needed : ℕ → Type 0
  Needed k = (fewer : ℕ) → fewer < k → place_for size reqs (gave fewer) ≡ None

  one_more : (k : ℕ) → Needed k → place_for size reqs (gave k) ≡ None → Needed (suc k)
  one_more k needed none fewer less =
      cases_eq fewer k
      (λ same. ap (λ n. place_for size reqs (gave n)) same ∙ none)
      (λ apart. needed fewer (omega (arith, less, apart)))

  asked_next : (test : Bool) (n k all : ℕ) → k + suc n ≡ all → all ≡ length memory.libraries → Needed k → is_some (place_for size reqs (gave k)) ≡ test
      → (Needed (suc k) → AsksAsFarAsNeeded size reqs memory (asked_each size reqs (range_with_len (suc k) n) (gave (suc k))))
      → AsksAsFarAsNeeded size reqs memory (asked_each size reqs (range_with_len (k + 1) n) (if test then gave k else gives_way k (gave k)))
  asked_next true n k all sum whole needed fits later = record {
    count = k;
    first = fits_stays size reqs (range_with_len (k + 1) n) (gave k) fits;
    needed = needed;
    enough = inl (ap (λ m. is_some (place_for size reqs m)) (fits_stays size reqs (range_with_len (k + 1) n) (gave k) fits) ∙ fits);
    within = omega (arith, sum, whole);
  }
  asked_next false n k all sum whole needed fits later =
      let next : k + 1 ≡ suc k = omega arith in
      subst (λ j. AsksAsFarAsNeeded size reqs memory (asked_each size reqs (range_with_len j n) (gives_way k (gave k)))) (sym next)
      (later (one_more k needed (none_there (place_for size reqs (gave k)) fits)))

  asked_from : (n k all : ℕ) → k + n ≡ all → all ≡ length memory.libraries → Needed k
      → AsksAsFarAsNeeded size reqs memory (asked_each size reqs (range_with_len k n) (gave k))
  asked_from zero k all sum whole needed = record {
    count = k;
    first = refl;
    needed = needed;
    enough = inr (omega (arith, sum, whole));
    within = omega (arith, sum, whole);
  }
  asked_from (suc n) k all sum whole needed =
      asked_next (is_some (place_for size reqs (gave k))) n k all sum whole needed refl
      (λ more. asked_from n (suc k) all (omega (arith, sum)) whole more)

pub libraries_give_way_as_far_as_needed : LibrariesGiveWayAsFarAsNeeded
unfolding after_asking
libraries_give_way_as_far_as_needed size reqs memory asks some =
    let tests : (memory.asks && not (nat_eq size 0)) ≡ true = ap (λ b. b && not (nat_eq size 0)) asks ∙ ap (λ b. not b) (nat_eq-other size 0 some) in
    subst (λ b. AsksAsFarAsNeeded size reqs memory
    (if b then asked_each size reqs (range_with_len 0 (length memory.libraries)) memory else memory)) (sym tests)
    (asked_from size reqs memory (length memory.libraries) 0 (length memory.libraries) (omega arith) refl (λ fewer less. absurd (omega (arith, less))))

-- ---- only libraries that are not open go

unchanged : (heap : Heap) → OnlyClosedLibrariesGo heap heap
unchanged heap = record {
  others = λ a none. refl;
  loaded = λ base is opened. still base heap heap is refl;
  counts = λ base is opened. refl;
}

alike : (a : ℕ) (old mid : Heap) → block_at a mid ≡ block_at a old → is_library_at a mid ≡ is_library_at a old
unfolding is_library_at
alike a old mid e = ap (λ found. is_kind is_library (option_map (λ (block : Block). block.object) found)) e

-- at all addresses but one nothing changes
module _ (at : ℕ) (old mid new : Heap) (there : is_library_at at old ≡ true) (same : (a : ℕ) → a ≢ at → block_at a mid ≡ block_at a old)
    (there_open : 1 ≤ count_of at old → StaysLoaded at old mid × (count_of at mid ≡ count_of at old)) (rest : OnlyClosedLibrariesGo mid new) where
  no_library : (a : ℕ) → is_library_at a old ≡ false → a ≢ at
  no_library a none e = true_is_not_false (sym there ∙ ap (λ k. is_library_at k old) (sym e) ∙ none)

  still_none : (a : ℕ) → is_library_at a old ≡ false → is_library_at a mid ≡ false
  still_none a none = alike a old mid (same a (no_library a none)) ∙ none

  stays_open : (base : ℕ) → is_library_at base old ≡ true → 1 ≤ count_of base old → StaysLoaded base old mid × (count_of base mid ≡ count_of base old)
  stays_open base is opened =
      cases_eq base at
      (λ e. subst (λ k. StaysLoaded k old mid × (count_of k mid ≡ count_of k old)) (sym e) (there_open (subst (λ k. 1 ≤ count_of k old) e opened)))
      (λ apart. (still base old mid is (same base apart), same_count base old mid (same base apart)))

  still_opened : (base : ℕ) → is_library_at base old ≡ true → 1 ≤ count_of base old → 1 ≤ count_of base mid
  still_opened base is opened = subst (λ n. 1 ≤ n) (sym (stays_open base is opened).1) opened

  then_rest : OnlyClosedLibrariesGo old new
  then_rest = record {
    others = λ a none. rest.others a (still_none a none) ∙ same a (no_library a none);
    loaded = λ base is opened. let one = stays_open base is opened in
        joined base old mid new one.0 (rest.loaded base one.0.loaded (still_opened base is opened));
    counts = λ base is opened. let one = stays_open base is opened in
        rest.counts base one.0.loaded (still_opened base is opened) ∙ one.1;
  }

only_closed_before : (regions : List Region) (new : Heap)
    → HoldsBefore regions (λ heap. IsWellFormed regions (extents heap) → OnlyClosedLibrariesGo heap new)
unfolding with_library
only_closed_before regions new = record {
  marking = λ base heap there rest formed.
      let mid = with_library base (count_of base heap) true heap in
      then_rest base heap mid new (there formed) (λ a apart. block_elsewhere a base _ heap apart)
      (λ opened. (counted base (count_of base heap) true heap (there formed), counted_open base (count_of base heap) true heap (there formed)))
      (rest (counted_formed regions base (count_of base heap) true heap formed));
  freeing = λ base heap there none rest formed.
      then_rest base heap (rid base heap) new (there formed) (λ a apart. block_rid_there a base heap apart)
      (λ opened. absurd (never (count_of base heap) none opened))
      (rest (rid_formed regions base heap formed));
}

-- a block that is not a library's stays
pub asking_leaves_others : (size reqs : ℕ) (memory : Memory) → IsWellFormed memory.regions (extents memory.heap) → (a : ℕ)
    → is_library_at a memory.heap ≡ false → block_at a (after_asking size reqs memory).heap ≡ block_at a memory.heap
asking_leaves_others size reqs memory formed =
    let asked = (after_asking size reqs memory).heap in
    (asking_before memory.regions _ size reqs memory (λ asks. only_closed_before memory.regions asked) (λ formed. unchanged asked) formed).others

pub only_closed_libraries_give_way : OnlyClosedLibrariesGiveWay
only_closed_libraries_give_way size reqs machine list is =
    let memory = (run machine list).state.memory in
    let asked = (after_asking size reqs memory).heap in
    asking_before memory.regions _ size reqs memory (λ asks. only_closed_before memory.regions asked) (λ formed. unchanged asked)
    (tidy_in_every_state machine list is).formed
