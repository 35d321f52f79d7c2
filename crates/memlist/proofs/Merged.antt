-- The blocks of all areas together: what is put into one area, freed in one, or found in one, is so in all.
use Rattle.std.proofs.Common.{◌≡◌, ◌≢◌, ℕ, ◌+◌, ◌<◌, ◌≤◌, Bool, true, false, cond, [], ◌∷◌, refl, sym, ◌∙◌, ap, subst, arith, ⊎_elim, zero, suc, List, set, Option, Some, None, nat_eq, nat_lt, not, ◌&&◌, ◌||◌, slice_get, nat_cmp}
use Rattle.std.specs.{Ordering.eq_by_cmp, Cmp.nat_cmp_total, FinMap.put, FinMap.Entries.find-put, FinMap.Entries.where_key, List.AllByRecursion, List.list_any}
use Rattle.std.proofs.lemmas.Bool.{cases_lt, not-true, and_parts}
use Rattle.memlist.specs.{Blocks.Blocks, Blocks.block_at, Blocks.blocks_in, Blocks.freed, Blocks.gaps, Blocks.gaps_between, Blocks.is_in, Areas.put_all, Areas.Area, Areas.IsLaidArea, Areas.area_gaps, Areas.merged, Areas.regions_of, declared.region.Region.Region, Regions.are_apart, Regions.overlaps, Regions.region_end, Memory.IsLaid}
use Rattle.memlist.proofs.{Answered.cases_eq, Answered.key_other, Answered.put_after, Answered.put_at, Answered.put_before, Answered.nat_eq-other, Answered.nat_lt-true, Slots.AllFrom, Slots.all_from_lower, Slots.put_front, Headers.inside_region, Chains.laid_ends, Tiling.nat_le-true}

-- keys in three orders
pub cases_order : {C : Type 0} (a b : ℕ) → (a < b → C) → (a ≡ b → C) → (b < a → C) → C
cases_order a b less same more = ⊎_elim less (λ (le : b ≤ a). cases_eq a b same (λ other. more (omega arith))) (cases_lt a b)

pub put_same : (a : ℕ) (v : ℕ × ℕ) (b : ℕ × (ℕ × ℕ)) (rest : Blocks) → a ≡ b.0 → put nat_cmp a v (b ∷ rest) ≡ (b.0, v) ∷ rest
put_same a v b rest e = subst (λ k. put nat_cmp k v (b ∷ rest) ≡ (b.0, v) ∷ rest) (sym e) (put_at b.0 v b.1 rest)

-- Entries that are put one after another

put_twice : (a : ℕ) (v w : ℕ × ℕ) (xs : Blocks) → put nat_cmp a v (put nat_cmp a w xs) ≡ put nat_cmp a v xs
put_twice a v w [] = put_at a v w []
put_twice a v w (x ∷ xs) =
    cases_order a x.0
    (λ lt. ap (put nat_cmp a v) (put_before a w x xs lt) ∙ put_at a v w (x ∷ xs) ∙ sym (put_before a v x xs lt))
    (λ eq. ap (put nat_cmp a v) (put_same a w x xs eq) ∙ put_same a v (x.0, w) xs eq ∙ sym (put_same a v x xs eq))
    (λ gt. ap (put nat_cmp a v) (put_after a w x xs gt) ∙ put_after a v x (put nat_cmp a w xs) gt ∙ ap (λ ys. x ∷ ys) (put_twice a v w xs) ∙ sym (put_after a v x xs gt))

put_less : (a b : ℕ) (v w : ℕ × ℕ) (xs : Blocks) → a < b → put nat_cmp a v (put nat_cmp b w xs) ≡ put nat_cmp b w (put nat_cmp a v xs)
put_less a b v w [] h = put_before a v (b, w) [] h ∙ sym (put_after b w (a, v) [] h)
put_less a b v w (x ∷ xs) h =
    cases_order a x.0
    (λ ax. cases_order b x.0
    (λ bx. ap (put nat_cmp a v) (put_before b w x xs bx) ∙ put_before a v (b, w) (x ∷ xs) h
    ∙ sym (ap (put nat_cmp b w) (put_before a v x xs ax) ∙ put_after b w (a, v) (x ∷ xs) h ∙ ap (λ ys. (a, v) ∷ ys) (put_before b w x xs bx)))
    (λ bx. ap (put nat_cmp a v) (put_same b w x xs bx) ∙ put_before a v (x.0, w) xs ax
    ∙ sym (ap (put nat_cmp b w) (put_before a v x xs ax) ∙ put_after b w (a, v) (x ∷ xs) h ∙ ap (λ ys. (a, v) ∷ ys) (put_same b w x xs bx)))
    (λ bx. ap (put nat_cmp a v) (put_after b w x xs bx) ∙ put_before a v x (put nat_cmp b w xs) ax
    ∙ sym (ap (put nat_cmp b w) (put_before a v x xs ax) ∙ put_after b w (a, v) (x ∷ xs) h ∙ ap (λ ys. (a, v) ∷ ys) (put_after b w x xs bx))))
    (λ ax. let bx : x.0 < b = omega arith in
    ap (put nat_cmp a v) (put_after b w x xs bx) ∙ put_same a v x (put nat_cmp b w xs) ax
    ∙ sym (ap (put nat_cmp b w) (put_same a v x xs ax) ∙ put_after b w (x.0, v) xs bx))
    (λ ax. let bx : x.0 < b = omega arith in
    ap (put nat_cmp a v) (put_after b w x xs bx) ∙ put_after a v x (put nat_cmp b w xs) ax ∙ ap (λ ys. x ∷ ys) (put_less a b v w xs h)
    ∙ sym (ap (put nat_cmp b w) (put_after a v x xs ax) ∙ put_after b w x (put nat_cmp a v xs) bx))

put_other : (a b : ℕ) (v w : ℕ × ℕ) (xs : Blocks) → a ≢ b → put nat_cmp a v (put nat_cmp b w xs) ≡ put nat_cmp b w (put nat_cmp a v xs)
put_other a b v w xs other =
    ⊎_elim (λ (lt : a < b). put_less a b v w xs lt) (λ (le : b ≤ a). sym (put_less b a w v xs (omega arith))) (cases_lt a b)

pub put_all-put : (a : ℕ) (v : ℕ × ℕ) (blocks others : Blocks) → put_all (put nat_cmp a v blocks) others ≡ put nat_cmp a v (put_all blocks others)
put_all-put a v [] others = refl
put_all-put a v (b ∷ rest) others =
    cases_order a b.0
    (λ lt. ap (λ bs. put_all bs others) (put_before a v b rest lt))
    (λ eq. ap (λ bs. put_all bs others) (put_same a v b rest eq)
    ∙ sym (ap (λ k. put nat_cmp k v (put nat_cmp b.0 b.1 (put_all rest others))) eq ∙ put_twice b.0 v b.1 (put_all rest others)))
    (λ gt. let other : b.0 ≢ a = omega arith in
    ap (λ bs. put_all bs others) (put_after a v b rest gt) ∙ ap (put nat_cmp b.0 b.1) (put_all-put a v rest others) ∙ put_other b.0 a b.1 v (put_all rest others) other)

-- whether the keys of all blocks answer a test alike
abbrev pub AllAnswer : (ℕ → Bool) → Bool → Blocks → Type 0
AllAnswer p answer [] = Unit {0}
AllAnswer p answer (block ∷ rest) = (p block.0 ≡ answer) × AllAnswer p answer rest

differs : (p : ℕ → Bool) (a b : ℕ) → p a ≡ true → p b ≡ false → a ≢ b
differs p a b t f e = let bad : true ≡ false = sym t ∙ ap p e ∙ f in cc

pub put_all-others : (p : ℕ → Bool) (a : ℕ) (v : ℕ × ℕ) (blocks others : Blocks) → p a ≡ true → AllAnswer p false blocks → put_all blocks (put nat_cmp a v others) ≡ put nat_cmp a v (put_all blocks others)
put_all-others p a v [] others t all = refl
put_all-others p a v (b ∷ rest) others t all =
    ap (put nat_cmp b.0 b.1) (put_all-others p a v rest others t all.1)
    ∙ put_other b.0 a b.1 v (put_all rest others) (λ e. differs p a b.0 t all.0 (sym e))

-- Blocks in order of address

abbrev pub IsRising : Blocks → Type 0
IsRising [] = Unit {0}
IsRising (block ∷ rest) = AllFrom (block.0 + 1) rest × IsRising rest

from_put : (low a : ℕ) (v : ℕ × ℕ) (xs : Blocks) → low ≤ a → AllFrom low xs → AllFrom low (put nat_cmp a v xs)
from_put low a v [] h all = (h, tt)
from_put low a v (x ∷ xs) h all =
    cases_order a x.0
    (λ lt. subst (AllFrom low) (sym (put_before a v x xs lt)) (h, all))
    (λ eq. subst (AllFrom low) (sym (put_same a v x xs eq)) all)
    (λ gt. subst (AllFrom low) (sym (put_after a v x xs gt)) (all.0, from_put low a v xs h all.1))

pub rising_put : (a : ℕ) (v : ℕ × ℕ) (xs : Blocks) → IsRising xs → IsRising (put nat_cmp a v xs)
rising_put a v [] h = (tt, tt)
rising_put a v (x ∷ xs) h =
    cases_order a x.0
    (λ lt. subst IsRising (sym (put_before a v x xs lt)) ((omega arith, all_from_lower (a + 1) (x.0 + 1) xs (omega arith) h.0), h))
    (λ eq. subst IsRising (sym (put_same a v x xs eq)) h)
    (λ gt. subst IsRising (sym (put_after a v x xs gt)) (from_put (x.0 + 1) a v xs (omega arith) h.0, rising_put a v xs h.1))

pub rising_put_all : (blocks others : Blocks) → IsRising others → IsRising (put_all blocks others)
rising_put_all [] others h = h
rising_put_all (b ∷ rest) others h = rising_put b.0 b.1 (put_all rest others) (rising_put_all rest others h)

pub put_all-nil : (blocks : Blocks) → IsRising blocks → put_all blocks [] ≡ blocks
put_all-nil [] h = refl
put_all-nil (b ∷ rest) h = ap (put nat_cmp b.0 b.1) (put_all-nil rest h.1) ∙ put_front b.0 b.1 rest h.0

-- Blocks whose keys pass a test

pub where_pass : (p : ℕ → Bool) (x : ℕ × (ℕ × ℕ)) (xs : Blocks) → p x.0 ≡ true → where_key nat_cmp p (x ∷ xs) ≡ x ∷ where_key nat_cmp p xs
where_pass p x xs t = ap (λ b. cond b (x ∷ where_key nat_cmp p xs) (where_key nat_cmp p xs)) t

pub where_fail : (p : ℕ → Bool) (x : ℕ × (ℕ × ℕ)) (xs : Blocks) → p x.0 ≡ false → where_key nat_cmp p (x ∷ xs) ≡ where_key nat_cmp p xs
where_fail p x xs f = ap (λ b. cond b (x ∷ where_key nat_cmp p xs) (where_key nat_cmp p xs)) f

pub cases_bool : {C : Type 0} (b : Bool) → (b ≡ true → C) → (b ≡ false → C) → C
cases_bool true passes fails = passes refl
cases_bool false passes fails = fails refl

pub from_where : (p : ℕ → Bool) (low : ℕ) (xs : Blocks) → AllFrom low xs → AllFrom low (where_key nat_cmp p xs)
from_where p low [] all = tt
from_where p low (x ∷ xs) all =
    cases_bool (p x.0)
    (λ t. subst (AllFrom low) (sym (where_pass p x xs t)) (all.0, from_where p low xs all.1))
    (λ f. subst (AllFrom low) (sym (where_fail p x xs f)) (from_where p low xs all.1))

pub where_put_fail : (p : ℕ → Bool) (a : ℕ) (v : ℕ × ℕ) (xs : Blocks) → p a ≡ false → where_key nat_cmp p (put nat_cmp a v xs) ≡ where_key nat_cmp p xs
where_put_fail p a v [] f = where_fail p (a, v) [] f
where_put_fail p a v (x ∷ xs) f =
    cases_order a x.0
    (λ lt. ap (where_key nat_cmp p) (put_before a v x xs lt) ∙ where_fail p (a, v) (x ∷ xs) f)
    (λ eq. let g : p x.0 ≡ false = ap p (sym eq) ∙ f in
    ap (where_key nat_cmp p) (put_same a v x xs eq) ∙ where_fail p (x.0, v) xs g ∙ sym (where_fail p x xs g))
    (λ gt. ap (where_key nat_cmp p) (put_after a v x xs gt)
    ∙ cases_bool (p x.0)
    (λ t. where_pass p x (put nat_cmp a v xs) t ∙ ap (λ ys. x ∷ ys) (where_put_fail p a v xs f) ∙ sym (where_pass p x xs t))
    (λ g. where_fail p x (put nat_cmp a v xs) g ∙ where_put_fail p a v xs f ∙ sym (where_fail p x xs g)))

pub where_put_pass : (p : ℕ → Bool) (a : ℕ) (v : ℕ × ℕ) (xs : Blocks) → p a ≡ true → IsRising xs → where_key nat_cmp p (put nat_cmp a v xs) ≡ put nat_cmp a v (where_key nat_cmp p xs)
where_put_pass p a v [] t h = where_pass p (a, v) [] t
where_put_pass p a v (x ∷ xs) t h =
    cases_order a x.0
    (λ lt. let rest = from_where p (a + 1) (x ∷ xs) (omega arith, all_from_lower (a + 1) (x.0 + 1) xs (omega arith) h.0) in
    ap (where_key nat_cmp p) (put_before a v x xs lt) ∙ where_pass p (a, v) (x ∷ xs) t ∙ sym (put_front a v (where_key nat_cmp p (x ∷ xs)) rest))
    (λ eq. let u : p x.0 ≡ true = ap p (sym eq) ∙ t in
    ap (where_key nat_cmp p) (put_same a v x xs eq) ∙ where_pass p (x.0, v) xs u
    ∙ sym (ap (put nat_cmp a v) (where_pass p x xs u) ∙ put_same a v x (where_key nat_cmp p xs) eq))
    (λ gt. ap (where_key nat_cmp p) (put_after a v x xs gt)
    ∙ cases_bool (p x.0)
    (λ u. where_pass p x (put nat_cmp a v xs) u ∙ ap (λ ys. x ∷ ys) (where_put_pass p a v xs t h.1)
    ∙ sym (ap (put nat_cmp a v) (where_pass p x xs u) ∙ put_after a v x (where_key nat_cmp p xs) gt))
    (λ g. where_fail p x (put nat_cmp a v xs) g ∙ where_put_pass p a v xs t h.1 ∙ sym (ap (put nat_cmp a v) (where_fail p x xs g))))

pub where_put_all : (p : ℕ → Bool) (blocks others : Blocks) → IsRising others → where_key nat_cmp p (put_all blocks others) ≡ put_all (where_key nat_cmp p blocks) (where_key nat_cmp p others)
where_put_all p [] others h = refl
where_put_all p (b ∷ rest) others h =
    cases_bool (p b.0)
    (λ t. where_put_pass p b.0 b.1 (put_all rest others) t (rising_put_all rest others h) ∙ ap (put nat_cmp b.0 b.1) (where_put_all p rest others h)
    ∙ sym (ap (λ bs. put_all bs (where_key nat_cmp p others)) (where_pass p b rest t)))
    (λ f. where_put_fail p b.0 b.1 (put_all rest others) f ∙ where_put_all p rest others h
    ∙ sym (ap (λ bs. put_all bs (where_key nat_cmp p others)) (where_fail p b rest f)))

pub where_none : (p : ℕ → Bool) (xs : Blocks) → AllAnswer p false xs → where_key nat_cmp p xs ≡ []
where_none p [] all = refl
where_none p (x ∷ xs) all = where_fail p x xs all.0 ∙ where_none p xs all.1

pub where_all : (p : ℕ → Bool) (xs : Blocks) → AllAnswer p true xs → where_key nat_cmp p xs ≡ xs
where_all p [] all = refl
where_all p (x ∷ xs) all = where_pass p x xs all.0 ∙ ap (λ ys. x ∷ ys) (where_all p xs all.1)

-- Blocks that are looked for

abbrev pub or_else : Option (ℕ × ℕ) → Option (ℕ × ℕ) → Option (ℕ × ℕ)
or_else None other = other
or_else (Some v) other = Some v

pub else_none : (o : Option (ℕ × ℕ)) → or_else o None ≡ o
else_none None = refl
else_none (Some v) = refl

pub found_put_all : (a : ℕ) (blocks others : Blocks) → block_at a (put_all blocks others) ≡ or_else (block_at a blocks) (block_at a others)
found_put_all a [] others = refl
found_put_all a (b ∷ rest) others =
    find-put nat_cmp nat_cmp_total a b.0 b.1 (put_all rest others)
    ∙ ap (cond (eq_by_cmp nat_cmp a b.0) (Some b.1)) (found_put_all a rest others)
    ∙ elim (eq_by_cmp nat_cmp a b.0) as (λ t. cond t (Some b.1) (or_else (block_at a rest) (block_at a others)) ≡ or_else (cond t (Some b.1) (block_at a rest)) (block_at a others)) [ true ↦ refl | false ↦ refl ]

pub found_nowhere : (p : ℕ → Bool) (a : ℕ) (xs : Blocks) → p a ≡ true → AllAnswer p false xs → block_at a xs ≡ None
found_nowhere p a [] t all = refl
found_nowhere p a (x ∷ xs) t all =
    ap (λ b. cond b (Some x.1) (block_at a xs)) (key_other a x.0 (differs p a x.0 t all.0)) ∙ found_nowhere p a xs t all.1

pub found_outside : (p : ℕ → Bool) (a : ℕ) (xs : Blocks) → p a ≡ false → AllAnswer p true xs → block_at a xs ≡ None
found_outside p a [] f all = refl
found_outside p a (x ∷ xs) f all =
    ap (λ b. cond b (Some x.1) (block_at a xs)) (key_other a x.0 (λ e. differs p x.0 a all.0 f (sym e))) ∙ found_outside p a xs f all.1

-- ---- the areas of a memory side by side: what is done in one of them, seen in the blocks of all

-- Keys of an area

pub is_in-true : (region : Region) (address : ℕ) → region.base ≤ address → address < region_end region → is_in region address ≡ true
is_in-true region address low high = ap (λ b. b && nat_lt address (region_end region)) (nat_le-true region.base address low) ∙ nat_lt-true address (region_end region) high

keys_laid : (region : Region) (from : ℕ) (blocks : Blocks) → region.base ≤ from → IsLaid from blocks (region_end region) → AllAnswer (is_in region) true blocks
keys_laid region from [] h laid = tt
keys_laid region from (block ∷ rest) h laid =
    let high = laid_ends (block.0 + block.1.0) rest (region_end region) laid.4 in
    (is_in-true region block.0 (omega (arith, laid.0)) (omega (arith, laid.1, high)), keys_laid region (block.0 + block.1.0) rest (omega (arith, laid.0)) laid.4)

pub keys_in : (area : Area) → IsLaidArea area → AllAnswer (is_in area.region) true area.blocks
keys_in area laid = keys_laid area.region area.region.base area.blocks (omega arith) laid

pub from_laid : (low from : ℕ) (blocks : Blocks) (to : ℕ) → low ≤ from → IsLaid from blocks to → AllFrom low blocks
from_laid low from [] to h laid = tt
from_laid low from (block ∷ rest) to h laid = (omega (arith, laid.0), from_laid low (block.0 + block.1.0) rest to (omega (arith, laid.0)) laid.4)

pub rising_laid : (from : ℕ) (blocks : Blocks) (to : ℕ) → IsLaid from blocks to → IsRising blocks
rising_laid from [] to laid = tt
rising_laid from (block ∷ rest) to laid = (from_laid (block.0 + 1) (block.0 + block.1.0) rest to (omega (arith, laid.1)) laid.4, rising_laid (block.0 + block.1.0) rest to laid.4)

-- an address of one region is none of another
pub apart_in : (a b : Region) (address : ℕ) → overlaps a b ≡ false → is_in a address ≡ true → is_in b address ≡ false
apart_in a b address apart inside =
    elim (is_in b address) as (λ t. is_in b address ≡ t → t ≡ false) [
      | true ↦ λ e.
          let i = inside_region a address inside in
          let j = inside_region b address e in
          let both : overlaps a b ≡ true = ap (λ t. t && nat_lt b.base (region_end a)) (nat_lt-true a.base (region_end b) (omega (arith, i.low, j.high))) ∙ nat_lt-true b.base (region_end a) (omega (arith, i.high, j.low)) in
          let bad : true ≡ false = sym both ∙ apart in cc
      | false ↦ λ e. refl
    ] refl

pub apart_out : (a b : Region) (address : ℕ) → overlaps a b ≡ false → is_in b address ≡ true → is_in a address ≡ false
apart_out a b address apart inside =
    elim (is_in a address) as (λ t. is_in a address ≡ t → t ≡ false) [
      | true ↦ λ e. let bad : true ≡ false = sym inside ∙ apart_in a b address apart e in cc
      | false ↦ λ e. refl
    ] refl

keys_out : (a b : Region) (blocks : Blocks) → overlaps a b ≡ false → AllAnswer (is_in a) true blocks → AllAnswer (is_in b) false blocks
keys_out a b [] apart all = tt
keys_out a b (block ∷ rest) apart all = (apart_in a b block.0 apart all.0, keys_out a b rest apart all.1)

keys_before : (a b : Region) (blocks : Blocks) → overlaps a b ≡ false → AllAnswer (is_in b) true blocks → AllAnswer (is_in a) false blocks
keys_before a b [] apart all = tt
keys_before a b (block ∷ rest) apart all = (apart_out a b block.0 apart all.0, keys_before a b rest apart all.1)

-- Areas that lie apart

abbrev pub AreApart : List Area → Type 0
AreApart [] = Unit {0}
AreApart (area ∷ rest) = AllByRecursion (λ (other : Area). overlaps area.region other.region ≡ false) rest × AreApart rest

none_overlap : (region : Region) (areas : List Area) → list_any (overlaps region) (regions_of areas) ≡ false → AllByRecursion (λ (other : Area). overlaps region other.region ≡ false) areas
none_overlap region [] e = tt
none_overlap region (area ∷ rest) e =
    elim (overlaps region area.region) as (λ b. overlaps region area.region ≡ b → b || list_any (overlaps region) (regions_of rest) ≡ false → (overlaps region area.region ≡ false) × AllByRecursion (λ (other : Area). overlaps region other.region ≡ false) rest) [
      | true ↦ λ t f. let bad : true ≡ false = f in cc
      | false ↦ λ t f. (t, none_overlap region rest f)
    ] refl e

pub apart_areas : (areas : List Area) → are_apart (regions_of areas) ≡ true → AreApart areas
apart_areas [] e = tt
apart_areas (area ∷ rest) e = (
  none_overlap area.region rest (not-true (list_any (overlaps area.region) (regions_of rest)) (and_parts (not (list_any (overlaps area.region) (regions_of rest))) (are_apart (regions_of rest)) e).0),
  apart_areas rest (and_parts (not (list_any (overlaps area.region) (regions_of rest))) (are_apart (regions_of rest)) e).1,
)

pub at_place : (P : Area → Type 0) (areas : List Area) (place : ℕ) (area : Area) → slice_get areas place ≡ Some area → AllByRecursion P areas → P area
at_place P [] place area at all = cc
at_place P (x ∷ rest) zero area at all = let here : x ≡ area = cc in subst P here all.0
at_place P (x ∷ rest) (suc place) area at all = at_place P rest place area at all.1

pub rising_merged : (areas : List Area) → IsRising (merged areas)
rising_merged [] = tt
rising_merged (area ∷ rest) = rising_put_all area.blocks (merged rest) (rising_merged rest)

abbrev AreLaidAreas : List Area → Type 0
AreLaidAreas areas = AllByRecursion IsLaidArea areas

-- no block of other areas lies in a region
none_in : (region : Region) (areas : List Area) → AllByRecursion (λ (other : Area). overlaps region other.region ≡ false) areas → AreLaidAreas areas → where_key nat_cmp (is_in region) (merged areas) ≡ []
none_in region [] apart laid = refl
none_in region (area ∷ rest) apart laid =
    where_put_all (is_in region) area.blocks (merged rest) (rising_merged rest)
    ∙ ap (λ bs. put_all bs (where_key nat_cmp (is_in region) (merged rest))) (where_none (is_in region) area.blocks (keys_before region area.region area.blocks apart.0 (keys_in area laid.0)))
    ∙ none_in region rest apart.1 laid.1

-- the blocks of one region are those of its area
pub blocks_of_area : (areas : List Area) (place : ℕ) (area : Area) → AreApart areas → AllByRecursion IsLaidArea areas → slice_get areas place ≡ Some area → blocks_in area.region (merged areas) ≡ area.blocks
blocks_of_area [] place area apart laid at = cc
blocks_of_area (x ∷ rest) zero area apart laid at =
    let here : x ≡ area = cc in
    subst (λ (a : Area). blocks_in a.region (put_all x.blocks (merged rest)) ≡ a.blocks) here
    (where_put_all (is_in x.region) x.blocks (merged rest) (rising_merged rest)
    ∙ ap (put_all (where_key nat_cmp (is_in x.region) x.blocks)) (none_in x.region rest apart.0 laid.1)
    ∙ ap (λ bs. put_all bs []) (where_all (is_in x.region) x.blocks (keys_in x laid.0))
    ∙ put_all-nil x.blocks (rising_laid x.region.base x.blocks (region_end x.region) laid.0))
blocks_of_area (x ∷ rest) (suc place) area apart laid at =
    let other = at_place (λ (other : Area). overlaps x.region other.region ≡ false) rest place area at apart.0 in
    where_put_all (is_in area.region) x.blocks (merged rest) (rising_merged rest)
    ∙ ap (λ bs. put_all bs (where_key nat_cmp (is_in area.region) (merged rest))) (where_none (is_in area.region) x.blocks (keys_out x.region area.region x.blocks other (keys_in x laid.0)))
    ∙ blocks_of_area rest place area apart.1 laid.1 at

pub gaps_of_area : (areas : List Area) (place : ℕ) (area : Area) → AreApart areas → AllByRecursion IsLaidArea areas → slice_get areas place ≡ Some area → gaps area.region (merged areas) ≡ area_gaps area
unfolding gaps
gaps_of_area areas place area apart laid at = ap (λ bs. gaps_between area.region.base bs (region_end area.region)) (blocks_of_area areas place area apart laid at)

-- a block that is put into one area is put among all
pub merged-put : (areas : List Area) (place : ℕ) (area : Area) (a : ℕ) (v : ℕ × ℕ) → AreApart areas → AllByRecursion IsLaidArea areas → slice_get areas place ≡ Some area → is_in area.region a ≡ true
    → merged (set areas place (record { region = area.region; blocks = put nat_cmp a v area.blocks })) ≡ put nat_cmp a v (merged areas)
merged-put [] place area a v apart laid at inside = cc
merged-put (x ∷ rest) zero area a v apart laid at inside =
    let here : area ≡ x = cc in
    ap (λ (y : Area). put_all (put nat_cmp a v y.blocks) (merged rest)) here ∙ put_all-put a v x.blocks (merged rest)
merged-put (x ∷ rest) (suc place) area a v apart laid at inside =
    let other = at_place (λ (other : Area). overlaps x.region other.region ≡ false) rest place area at apart.0 in
    ap (put_all x.blocks) (merged-put rest place area a v apart.1 laid.1 at inside)
    ∙ put_all-others (is_in area.region) a v x.blocks (merged rest) inside (keys_out x.region area.region x.blocks other (keys_in x laid.0))

-- Freeing

freed_outside : (p : ℕ → Bool) (a : ℕ) (blocks : Blocks) → p a ≡ true → AllAnswer p false blocks → freed a blocks ≡ blocks
freed_outside p a [] t all = refl
freed_outside p a (block ∷ rest) t all =
    let other : block.0 ≢ a = λ e. let bad : false ≡ true = sym all.0 ∙ ap p e ∙ t in cc in
    ap (λ b. cond (not b) (block ∷ freed a rest) (freed a rest)) (nat_eq-other block.0 a other) ∙ ap (λ bs. block ∷ bs) (freed_outside p a rest t all.1)

freed_none_of : (region : Region) (a : ℕ) (areas : List Area) → is_in region a ≡ true → AllByRecursion (λ (other : Area). overlaps region other.region ≡ false) areas → AreLaidAreas areas → freed a (merged areas) ≡ merged areas
freed_none_of region a [] inside apart laid = refl
freed_none_of region a (area ∷ rest) inside apart laid =
    where_put_all (λ k. not (nat_eq k a)) area.blocks (merged rest) (rising_merged rest)
    ∙ ap (λ bs. put_all bs (freed a (merged rest))) (freed_outside (is_in region) a area.blocks inside (keys_before region area.region area.blocks apart.0 (keys_in area laid.0)))
    ∙ ap (put_all area.blocks) (freed_none_of region a rest inside apart.1 laid.1)

-- a block that is freed in one area is freed among all
pub merged-freed : (areas : List Area) (place : ℕ) (area : Area) (a : ℕ) → AreApart areas → AllByRecursion IsLaidArea areas → slice_get areas place ≡ Some area → is_in area.region a ≡ true
    → merged (set areas place (record { region = area.region; blocks = freed a area.blocks })) ≡ freed a (merged areas)
merged-freed [] place area a apart laid at inside = cc
merged-freed (x ∷ rest) zero area a apart laid at inside =
    let here : area ≡ x = cc in
    let in_x : is_in x.region a ≡ true = ap (λ (y : Area). is_in y.region a) (sym here) ∙ inside in
    ap (λ (y : Area). put_all (freed a y.blocks) (merged rest)) here
    ∙ ap (put_all (freed a x.blocks)) (sym (freed_none_of x.region a rest in_x apart.0 laid.1))
    ∙ sym (where_put_all (λ k. not (nat_eq k a)) x.blocks (merged rest) (rising_merged rest))
merged-freed (x ∷ rest) (suc place) area a apart laid at inside =
    let other = at_place (λ (other : Area). overlaps x.region other.region ≡ false) rest place area at apart.0 in
    ap (put_all x.blocks) (merged-freed rest place area a apart.1 laid.1 at inside)
    ∙ ap (λ bs. put_all bs (freed a (merged rest))) (sym (freed_outside (is_in area.region) a x.blocks inside (keys_out x.region area.region x.blocks other (keys_in x laid.0))))
    ∙ sym (where_put_all (λ k. not (nat_eq k a)) x.blocks (merged rest) (rising_merged rest))

-- Look-ups

none_of : (region : Region) (a : ℕ) (areas : List Area) → is_in region a ≡ true → AllByRecursion (λ (other : Area). overlaps region other.region ≡ false) areas → AreLaidAreas areas → block_at a (merged areas) ≡ None
none_of region a [] inside apart laid = refl
none_of region a (area ∷ rest) inside apart laid =
    found_put_all a area.blocks (merged rest)
    ∙ ap (λ o. or_else o (block_at a (merged rest))) (found_nowhere (is_in region) a area.blocks inside (keys_before region area.region area.blocks apart.0 (keys_in area laid.0)))
    ∙ none_of region a rest inside apart.1 laid.1

-- the block at an address of a region is that of its area
pub found_of_area : (areas : List Area) (place : ℕ) (area : Area) (a : ℕ) → AreApart areas → AllByRecursion IsLaidArea areas → slice_get areas place ≡ Some area → is_in area.region a ≡ true
    → block_at a (merged areas) ≡ block_at a area.blocks
found_of_area [] place area a apart laid at inside = cc
found_of_area (x ∷ rest) zero area a apart laid at inside =
    let here : area ≡ x = cc in
    let in_x : is_in x.region a ≡ true = ap (λ (y : Area). is_in y.region a) (sym here) ∙ inside in
    found_put_all a x.blocks (merged rest) ∙ ap (or_else (block_at a x.blocks)) (none_of x.region a rest in_x apart.0 laid.1) ∙ else_none (block_at a x.blocks)
    ∙ ap (λ (y : Area). block_at a y.blocks) (sym here)
found_of_area (x ∷ rest) (suc place) area a apart laid at inside =
    let other = at_place (λ (other : Area). overlaps x.region other.region ≡ false) rest place area at apart.0 in
    found_put_all a x.blocks (merged rest)
    ∙ ap (λ o. or_else o (block_at a (merged rest))) (found_nowhere (is_in area.region) a x.blocks inside (keys_out x.region area.region x.blocks other (keys_in x laid.0)))
    ∙ found_of_area rest place area a apart.1 laid.1 at inside

-- there is no block outside all regions
pub found_in_none : (areas : List Area) (a : ℕ) → AllByRecursion IsLaidArea areas → AllByRecursion (λ (area : Area). is_in area.region a ≡ false) areas → block_at a (merged areas) ≡ None
found_in_none [] a laid out = refl
found_in_none (x ∷ rest) a laid out =
    found_put_all a x.blocks (merged rest) ∙ ap (λ o. or_else o (block_at a (merged rest))) (found_outside (is_in x.region) a x.blocks out.0 (keys_in x laid.0)) ∙ found_in_none rest a laid.1 out.1
