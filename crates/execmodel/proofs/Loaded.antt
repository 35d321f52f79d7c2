-- A library that is found by its number is the one that begins at its address.
use Rattle.std.proofs.Common.{◌≡◌, ℕ, ◌<◌, Bool, true, false, List, [], ◌∷◌, None, Some, refl, sym, ap, ◌∙◌, subst, arith, cond, find, option_map}
use Rattle.memlist.specs.{declared.region.Region.Region, Memory.IsWellFormed}
use Rattle.memlist.proofs.{Answered.cases_eq, Answered.key_same, Answered.key_other, Slots.AllFrom, Merged.IsRising, Keeping.rising_sorted}
use Rattle.execmodel.specs.{State.Object, State.Library, State.Block, State.Heap, Memory.block_at, Memory.extents, Objects.object_at, Objects.is_kind, Libraries.is_library, Libraries.is_library_at, Libraries.is_numbered, Libraries.base_of}
use Rattle.execmodel.proofs.{Heaps.true_is_not_false, Commands.none_some}

numbered_is : (i : ℕ) (object : Object) → is_numbered i object ≡ true → is_library object ≡ true
numbered_is i (Library number count delayed) e = refl
numbered_is i _ e = true_is_not_false (sym e)

some_same : {x y : ℕ} → Some x ≡ Some y → x ≡ y
some_same {x} {y} e = cc

-- nothing begins below the first block
none_from : (a x : ℕ) (heap : Heap) → a < x → AllFrom x (extents heap) → block_at a heap ≡ None
none_from a x [] less all = refl
none_from a x (entry ∷ rest) less all =
    ap (λ test. cond test (Some entry.1) (block_at a rest)) (key_other a entry.0 (λ same. omega (arith, same, all.0, less)))
    ∙ none_from a x rest less all.1

-- a library that begins at an address after the first block
behind : (base : ℕ) (entry : ℕ × Block) (rest : Heap) → block_at entry.0 rest ≡ None → is_kind is_library (object_at base rest) ≡ true
    → is_kind is_library (object_at base (entry ∷ rest)) ≡ true
behind base entry rest none is =
    cases_eq base entry.0
    (λ same. true_is_not_false (sym is ∙ ap (λ found. is_kind is_library (option_map (λ (b : Block). b.object) found)) (ap (λ a. block_at a rest) same ∙ none)))
    (λ apart. ap (λ test. is_kind is_library (option_map (λ (b : Block). b.object) (cond test (Some entry.1) (block_at base rest)))) (key_other base entry.0 apart) ∙ is)

first_or_behind : (test : Bool) (i base : ℕ) (entry : ℕ × Block) (rest : Heap) → is_numbered i entry.1.object ≡ test
    → option_map (λ (e : ℕ × Block). e.0) (cond test (Some entry) (find (λ (e : ℕ × Block). is_numbered i e.1.object) rest)) ≡ Some base
    → block_at entry.0 rest ≡ None → (base_of i rest ≡ Some base → is_library_at base rest ≡ true) → is_library_at base (entry ∷ rest) ≡ true
unfolding is_library_at base_of
first_or_behind true i base entry rest is e none others =
    subst (λ a. is_kind is_library (object_at a (entry ∷ rest)) ≡ true) (some_same e)
    (ap (λ test. is_kind is_library (option_map (λ (b : Block). b.object) (cond test (Some entry.1) (block_at entry.0 rest)))) (key_same entry.0)
    ∙ numbered_is i entry.1.object is)
first_or_behind false i base entry rest is e none others = behind base entry rest none (others e)

found_loaded : (i base : ℕ) (heap : Heap) → IsRising (extents heap) → base_of i heap ≡ Some base → is_library_at base heap ≡ true
unfolding base_of
found_loaded i base [] rising e = none_some (sym e)
found_loaded i base (entry ∷ rest) rising e =
    first_or_behind (is_numbered i entry.1.object) i base entry rest refl e
    (none_from entry.0 _ rest (omega arith) rising.0)
    (λ there. found_loaded i base rest rising.1 there)

-- if the blocks are in order, a library begins at the base that its number has
pub base_is_loaded : (regions : List Region) (i base : ℕ) (heap : Heap) → IsWellFormed regions (extents heap) → base_of i heap ≡ Some base
    → is_library_at base heap ≡ true
base_is_loaded regions i base heap formed e = found_loaded i base heap (rising_sorted (extents heap) formed.in_order) e
