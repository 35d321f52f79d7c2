-- What keeps a memory well formed.
use Rattle.std.proofs.Common.{◌≡◌, ℕ, zero, suc, ◌+◌, ◌<◌, Bool, true, false, List, [], ◌∷◌, get_or, refl, sym, ◌∙◌, ap, subst, arith, nat_eq, not, ◌&&◌, ◌||◌, Some, None, slice_get, nat_cmp, is_lt, Equal}
use Rattle.std.specs.{List.AllByRecursion, List.list_all, List.list_any, FinMap.is_sorted, FinMap.put, FinMap.Entries.below_all, FinMap.Entries.where_key}
use Rattle.std.proofs.lemmas.{List.Elements.recursion_from_All, Option.slice_get-get_or, Bool.not-true, Bool.and_parts, Bool.or_parts}
use Rattle.memlist.specs.{declared.region.Region.Region, Regions.are_apart, Regions.overlaps, Regions.region_end, Regions.regions_fault, Blocks.Blocks, Blocks.blocks_in, Blocks.freed, Blocks.is_in, Memory.AreLaid, Memory.IsLaid, Memory.IsWellFormed, Areas.Area, Areas.AreMemory, Areas.IsLaidArea, Areas.greatest_total, Areas.merged, Areas.put_all, Areas.regions_of}
use Rattle.memlist.proofs.Merged.{AllAnswer, IsRising, cases_bool, cases_order, from_where, put_same, where_fail, where_pass, where_put_fail, where_put_pass, apart_in, apart_out, blocks_of_area, keys_in, rising_merged}
use Rattle.memlist.proofs.{Answered.cmp_greater, Answered.cmp_less, Answered.cmp_same, Answered.put_after, Answered.put_before, Gaps.laid_lower, Slots.AllFrom, Memories.apart_memory, Memories.small_reach, Memories.sound_regions, Memories.region_at}

-- Order

from_cmp : (a b : ℕ) → is_lt (nat_cmp a b) ≡ true → a < b
from_cmp a b e =
    cases_order a b
    (λ lt. lt)
    (λ eq. let bad : false ≡ true = ap is_lt (sym (subst (λ k. nat_cmp a k ≡ Equal) eq (cmp_same a))) ∙ e in cc)
    (λ gt. let bad : false ≡ true = ap is_lt (sym (cmp_greater a b gt)) ∙ e in cc)

from_below : (x : ℕ) (blocks : Blocks) → below_all nat_cmp x blocks ≡ true → AllFrom (x + 1) blocks
from_below x [] e = tt
from_below x (block ∷ rest) e =
    let lt = from_cmp x block.0 (and_parts (is_lt (nat_cmp x block.0)) (below_all nat_cmp x rest) e).0 in
    (omega (arith, lt), from_below x rest (and_parts (is_lt (nat_cmp x block.0)) (below_all nat_cmp x rest) e).1)

below_from : (x : ℕ) (blocks : Blocks) → AllFrom (x + 1) blocks → below_all nat_cmp x blocks ≡ true
below_from x [] all = refl
below_from x (block ∷ rest) all = ap (λ o. is_lt o && below_all nat_cmp x rest) (cmp_less x block.0 (omega (arith, all.0))) ∙ below_from x rest all.1

pub sorted_rising : (blocks : Blocks) → IsRising blocks → is_sorted nat_cmp blocks ≡ true
sorted_rising [] h = refl
sorted_rising (block ∷ rest) h = ap (λ b. b && is_sorted nat_cmp rest) (below_from block.0 rest h.0) ∙ sorted_rising rest h.1

pub rising_sorted : (blocks : Blocks) → is_sorted nat_cmp blocks ≡ true → IsRising blocks
rising_sorted [] e = tt
rising_sorted (block ∷ rest) e =
    (from_below block.0 rest (and_parts (below_all nat_cmp block.0 rest) (is_sorted nat_cmp rest) e).0, rising_sorted rest (and_parts (below_all nat_cmp block.0 rest) (is_sorted nat_cmp rest) e).1)

-- Homes

abbrev pub in_some : List Region → ℕ → Bool
in_some regions address = list_any (λ region. is_in region address) regions

abbrev pub AtHome : List Region → Blocks → Type 0
AtHome regions blocks = list_all (λ (block : ℕ × (ℕ × ℕ)). list_any (λ region. is_in region block.0) regions) blocks ≡ true

pub to_home : (regions : List Region) (blocks : Blocks) → AllAnswer (in_some regions) true blocks → AtHome regions blocks
to_home regions [] all = refl
to_home regions (block ∷ rest) all = ap (λ b. b && list_all (λ (block : ℕ × (ℕ × ℕ)). list_any (λ region. is_in region block.0) regions) rest) all.0 ∙ to_home regions rest all.1

pub from_home : (regions : List Region) (blocks : Blocks) → AtHome regions blocks → AllAnswer (in_some regions) true blocks
from_home regions [] e = tt
from_home regions (block ∷ rest) e =
    let others = list_all (λ (block : ℕ × (ℕ × ℕ)). list_any (λ region. is_in region block.0) regions) rest in
    ((and_parts (in_some regions block.0) others e).0, from_home regions rest (and_parts (in_some regions block.0) others e).1)

pub answers_put : (p : ℕ → Bool) (b : Bool) (a : ℕ) (v : ℕ × ℕ) (xs : Blocks) → p a ≡ b → AllAnswer p b xs → AllAnswer p b (put nat_cmp a v xs)
answers_put p b a v [] h all = (h, tt)
answers_put p b a v (x ∷ xs) h all =
    cases_order a x.0
    (λ lt. subst (AllAnswer p b) (sym (put_before a v x xs lt)) (h, all))
    (λ eq. subst (AllAnswer p b) (sym (put_same a v x xs eq)) all)
    (λ gt. subst (AllAnswer p b) (sym (put_after a v x xs gt)) (all.0, answers_put p b a v xs h all.1))

answers_put_all : (p : ℕ → Bool) (b : Bool) (blocks others : Blocks) → AllAnswer p b blocks → AllAnswer p b others → AllAnswer p b (put_all blocks others)
answers_put_all p b [] others all more = more
answers_put_all p b (x ∷ rest) others all more = answers_put p b x.0 x.1 (put_all rest others) all.0 (answers_put_all p b rest others all.1 more)

answers_where : (p q : ℕ → Bool) (b : Bool) (xs : Blocks) → AllAnswer p b xs → AllAnswer p b (where_key nat_cmp q xs)
answers_where p q b [] all = tt
answers_where p q b (x ∷ xs) all =
    cases_bool (q x.0)
    (λ t. subst (AllAnswer p b) (sym (where_pass q x xs t)) (all.0, answers_where p q b xs all.1))
    (λ f. subst (AllAnswer p b) (sym (where_fail q x xs f)) (answers_where p q b xs all.1))

answers_by : (p q : ℕ → Bool) (xs : Blocks) → ((k : ℕ) → p k ≡ true → q k ≡ true) → AllAnswer p true xs → AllAnswer q true xs
answers_by p q [] h all = tt
answers_by p q (x ∷ xs) h all = (h x.0 all.0, answers_by p q xs h all.1)

pub in_some_at : (regions : List Region) (place : ℕ) (region : Region) (address : ℕ) → slice_get regions place ≡ Some region → is_in region address ≡ true → in_some regions address ≡ true
in_some_at [] place region address at inside = cc
in_some_at (x ∷ rest) zero region address at inside =
    let here : region ≡ x = cc in
    ap (λ b. b || in_some rest address) (ap (λ (r : Region). is_in r address) (sym here) ∙ inside)
in_some_at (x ∷ rest) (suc place) region address at inside =
    elim (is_in x address) as (λ b. b || in_some rest address ≡ true) [ true ↦ refl | false ↦ in_some_at rest place region address at inside ]

-- What the headers of a memory keep

homes_merged : (regions : List Region) (areas : List Area) → AllByRecursion (λ (area : Area). (k : ℕ) → is_in area.region k ≡ true → in_some regions k ≡ true) areas → AllByRecursion IsLaidArea areas
    → AllAnswer (in_some regions) true (merged areas)
homes_merged regions [] homes laid = tt
homes_merged regions (area ∷ rest) homes laid =
    answers_put_all (in_some regions) true area.blocks (merged rest) (answers_by (is_in area.region) (in_some regions) area.blocks homes.0 (keys_in area laid.0)) (homes_merged regions rest homes.1 laid.1)

homes_of : (areas : List Area) → AllByRecursion (λ (area : Area). (k : ℕ) → is_in area.region k ≡ true → in_some (regions_of areas) k ≡ true) areas
homes_of areas =
    recursion_from_All (λ (area : Area). (k : ℕ) → is_in area.region k ≡ true → in_some (regions_of areas) k ≡ true) areas
    (λ place d within k inside. in_some_at (regions_of areas) place (get_or areas place d).region k (region_at areas place (get_or areas place d) (slice_get-get_or areas place d within)) inside)

laid_of : (all areas : List Area) → AllByRecursion (λ (area : Area). blocks_in area.region (merged all) ≡ area.blocks) areas → AllByRecursion IsLaidArea areas → AreLaid (regions_of areas) (merged all)
laid_of all [] shown laid = tt
laid_of all (area ∷ rest) shown laid = (subst (λ bs. IsLaid area.region.base bs (region_end area.region)) (sym shown.0) laid.0, laid_of all rest shown.1 laid.1)

pub well_formed : (areas : List Area) → AreMemory areas → IsWellFormed (regions_of areas) (merged areas)
well_formed areas m =
    let sound = sound_regions greatest_total (regions_of areas) m.sound in
    record {
      aligned = sound.aligned;
      in_reach = small_reach greatest_total (regions_of areas) sound.small;
      apart = sound.apart;
      in_order = sorted_rising (merged areas) (rising_merged areas);
      at_home = to_home (regions_of areas) (merged areas) (homes_merged (regions_of areas) areas (homes_of areas) m.laid);
      laid = laid_of areas areas
          (recursion_from_All (λ (area : Area). blocks_in area.region (merged areas) ≡ area.blocks) areas
          (λ k d within. blocks_of_area areas k (get_or areas k d) (apart_memory areas m) m.laid (slice_get-get_or areas k d within)))
          m.laid;
    }

-- Nothing allocated

laid_none : (regions : List Region) → AreLaid regions []
laid_none [] = tt
laid_none (region ∷ rest) = (omega arith, laid_none rest)

pub untouched_well_formed : (total : ℕ) (regions : List Region) → regions_fault total regions ≡ None → IsWellFormed regions []
untouched_well_formed total regions e =
    let sound = sound_regions total regions e in
    record { aligned = sound.aligned; in_reach = small_reach total regions sound.small; apart = sound.apart; in_order = refl; at_home = refl; laid = laid_none regions }

-- A block is freed

laid_where : (p : ℕ → Bool) (from : ℕ) (blocks : Blocks) (to : ℕ) → IsLaid from blocks to → IsLaid from (where_key nat_cmp p blocks) to
laid_where p from [] to laid = laid
laid_where p from (block ∷ rest) to laid =
    let later = laid_where p (block.0 + block.1.0) rest to laid.4 in
    cases_bool (p block.0)
    (λ t. subst (λ bs. IsLaid from bs to) (sym (where_pass p block rest t)) (laid.0, laid.1, laid.2, laid.3, later))
    (λ f. subst (λ bs. IsLaid from bs to) (sym (where_fail p block rest f)) (laid_lower from (block.0 + block.1.0) (where_key nat_cmp p rest) to (omega (arith, laid.0)) later))

where_where : (p q : ℕ → Bool) (xs : Blocks) → where_key nat_cmp p (where_key nat_cmp q xs) ≡ where_key nat_cmp q (where_key nat_cmp p xs)
where_where p q [] = refl
where_where p q (x ∷ xs) =
    cases_bool (q x.0)
    (λ qt. ap (where_key nat_cmp p) (where_pass q x xs qt)
    ∙ cases_bool (p x.0)
    (λ pt. where_pass p x (where_key nat_cmp q xs) pt ∙ ap (λ ys. x ∷ ys) (where_where p q xs) ∙ sym (ap (where_key nat_cmp q) (where_pass p x xs pt) ∙ where_pass q x (where_key nat_cmp p xs) qt))
    (λ pf. where_fail p x (where_key nat_cmp q xs) pf ∙ where_where p q xs ∙ sym (ap (where_key nat_cmp q) (where_fail p x xs pf))))
    (λ qf. ap (where_key nat_cmp p) (where_fail q x xs qf) ∙ where_where p q xs
    ∙ cases_bool (p x.0)
    (λ pt. sym (ap (where_key nat_cmp q) (where_pass p x xs pt) ∙ where_fail q x (where_key nat_cmp p xs) qf))
    (λ pf. sym (ap (where_key nat_cmp q) (where_fail p x xs pf))))

are_laid_freed : (regions : List Region) (blocks : Blocks) (address : ℕ) → AreLaid regions blocks → AreLaid regions (freed address blocks)
are_laid_freed [] blocks address laid = tt
are_laid_freed (region ∷ rest) blocks address laid = (
  subst (λ bs. IsLaid region.base bs (region_end region)) (sym (where_where (is_in region) (λ k. not (nat_eq k address)) blocks)) (laid_where (λ k. not (nat_eq k address)) region.base (blocks_in region blocks) (region_end region) laid.0),
  are_laid_freed rest blocks address laid.1,
)

rising_where : (p : ℕ → Bool) (xs : Blocks) → IsRising xs → IsRising (where_key nat_cmp p xs)
rising_where p [] h = tt
rising_where p (x ∷ xs) h =
    cases_bool (p x.0)
    (λ t. subst IsRising (sym (where_pass p x xs t)) (from_where p (x.0 + 1) xs h.0, rising_where p xs h.1))
    (λ f. subst IsRising (sym (where_fail p x xs f)) (rising_where p xs h.1))

pub freed_well_formed : (regions : List Region) (blocks : Blocks) (address : ℕ) → IsWellFormed regions blocks → IsWellFormed regions (freed address blocks)
freed_well_formed regions blocks address w = record {
  aligned = w.aligned;
  in_reach = w.in_reach;
  apart = w.apart;
  in_order = sorted_rising (freed address blocks) (rising_where (λ k. not (nat_eq k address)) blocks (rising_sorted blocks w.in_order));
  at_home = to_home regions (freed address blocks) (answers_where (in_some regions) (λ k. not (nat_eq k address)) true blocks (from_home regions blocks w.at_home));
  laid = are_laid_freed regions blocks address w.laid;
}

-- A block is put if it fits

none_overlap_at : (region : Region) (regions : List Region) (place : ℕ) (other : Region) → list_any (overlaps region) regions ≡ false → slice_get regions place ≡ Some other → overlaps region other ≡ false
none_overlap_at region [] place other e at = cc
none_overlap_at region (x ∷ rest) zero other e at =
    let here : x ≡ other = cc in
    subst (λ r. overlaps region r ≡ false) here (or_parts (overlaps region x) (list_any (overlaps region) rest) e).0
none_overlap_at region (x ∷ rest) (suc place) other e at = none_overlap_at region rest place other (or_parts (overlaps region x) (list_any (overlaps region) rest) e).1 at

laid_elsewhere : (region : Region) (regions : List Region) (blocks : Blocks) (a : ℕ) (v : ℕ × ℕ) → is_in region a ≡ true → list_any (overlaps region) regions ≡ false → AreLaid regions blocks → AreLaid regions (put nat_cmp a v blocks)
laid_elsewhere region [] blocks a v inside e laid = tt
laid_elsewhere region (x ∷ rest) blocks a v inside e laid =
    let out = apart_in region x a (or_parts (overlaps region x) (list_any (overlaps region) rest) e).0 inside in (
      subst (λ bs. IsLaid x.base bs (region_end x)) (sym (where_put_fail (is_in x) a v blocks out)) laid.0,
      laid_elsewhere region rest blocks a v inside (or_parts (overlaps region x) (list_any (overlaps region) rest) e).1 laid.1,
    )

pub are_laid_put : (regions : List Region) (blocks : Blocks) (place : ℕ) (region : Region) (a : ℕ) (v : ℕ × ℕ) → are_apart regions ≡ true → IsRising blocks → slice_get regions place ≡ Some region → is_in region a ≡ true
    → IsLaid region.base (put nat_cmp a v (blocks_in region blocks)) (region_end region) → AreLaid regions blocks → AreLaid regions (put nat_cmp a v blocks)
are_laid_put [] blocks place region a v apart rising at inside new laid = cc
are_laid_put (x ∷ rest) blocks zero region a v apart rising at inside new laid =
    let here : x ≡ region = cc in
    let e = not-true (list_any (overlaps x) rest) (and_parts (not (list_any (overlaps x) rest)) (are_apart rest) apart).0 in (
      subst (λ (r : Region). IsLaid r.base (blocks_in r (put nat_cmp a v blocks)) (region_end r)) (sym here)
          (subst (λ bs. IsLaid region.base bs (region_end region)) (sym (where_put_pass (is_in region) a v blocks inside rising)) new),
      laid_elsewhere x rest blocks a v (subst (λ (r : Region). is_in r a ≡ true) (sym here) inside) e laid.1,
    )
are_laid_put (x ∷ rest) blocks (suc place) region a v apart rising at inside new laid =
    let e = not-true (list_any (overlaps x) rest) (and_parts (not (list_any (overlaps x) rest)) (are_apart rest) apart).0 in
    let out = apart_out x region a (none_overlap_at x rest place region e at) inside in (
      subst (λ bs. IsLaid x.base bs (region_end x)) (sym (where_put_fail (is_in x) a v blocks out)) laid.0,
      are_laid_put rest blocks place region a v (and_parts (not (list_any (overlaps x) rest)) (are_apart rest) apart).1 rising at inside new laid.1,
    )
