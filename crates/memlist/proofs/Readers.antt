-- The gaps of a memory, read one after another.
use Rattle.std.proofs.Common.{◌≡◌, ℕ, zero, suc, true, false, ◌<◌, ◌≤◌, cond, List, [], ◌∷◌, ◌++◌, length, refl, ◌∙◌, ap, arith, append-nil, None, Some, nat_le, slice_get}
use Rattle.std.specs.List.{AllByRecursion}
use Rattle.std.proofs.lemmas.Bool.Decides.{nat_tests}
use Rattle.memlist.specs.{declared.gap.Gap.Gap, Areas.Area, Areas.AreMemory, Areas.area_gaps, Areas.merged, Areas.regions_of, Chain.IsPassed, Readers.gap_from, Readers.gaps_in}
use Rattle.memlist.proofs.{Memories.apart_memory, Memories.region_at, Merged.gaps_of_area, Walking.ahead, Walking.nothing_ahead}

-- the lowest gap from an address on is the first after those that are below it
from_after : (address : ℕ) (xs : List Gap) (gap : Gap) (ys : List Gap) → AllByRecursion (λ (gap : Gap). gap.address < address) xs
    → address ≤ gap.address → gap_from address (xs ++ gap ∷ ys) ≡ Some gap
from_after address [] gap ys all from =
    ap (λ b. cond b (Some gap) (gap_from address ys)) (let e : nat_le address gap.address ≡ true = grind (arith, nat_tests, from) in e)
from_after address (x ∷ xs) gap ys all from =
    ap (λ b. cond b (Some x) (gap_from address (xs ++ gap ∷ ys)))
    (let low = all.0 in let e : nat_le address x.address ≡ false = grind (arith, nat_tests, low) in e)
    ∙ from_after address xs gap ys all.1 from

from_nowhere : (address : ℕ) (xs : List Gap) → AllByRecursion (λ (gap : Gap). gap.address < address) xs → gap_from address xs ≡ None
from_nowhere address [] all = refl
from_nowhere address (x ∷ xs) all =
    ap (λ b. cond b (Some x) (gap_from address xs))
    (let low = all.0 in let e : nat_le address x.address ≡ false = grind (arith, nat_tests, low) in e)
    ∙ from_nowhere address xs all.1

-- a walk that has met one
pub found_from : (address : ℕ) (free : List Gap) (before : ℕ) (gap : Gap) (p : IsPassed (λ gap. gap.address < address) free before)
    → Some gap ≡ slice_get p.above 0 → address ≤ gap.address → gap_from address free ≡ Some gap
found_from address free before gap p at from =
    let a = ahead p.above gap at in
    ap (gap_from address) (p.is ∙ ap (λ gs. p.below ++ gs) a.is) ∙ from_after address p.below gap a.rest p.passed from

-- a walk that has met none
pub found_none : (address : ℕ) (free : List Gap) (before : ℕ) (p : IsPassed (λ gap. gap.address < address) free before)
    → None ≡ slice_get p.above 0 → gap_from address free ≡ None
found_none address free before p at =
    ap (gap_from address) (p.is ∙ ap (λ gs. p.below ++ gs) (nothing_ahead p.above at) ∙ append-nil p.below)
    ∙ from_nowhere address p.below p.passed

-- the gaps of the region at a place are those of its area
pub gaps_at : (areas : List Area) (k : ℕ) (area : Area) → AreMemory areas → slice_get areas k ≡ Some area
    → gaps_in (slice_get (regions_of areas) k) (merged areas) ≡ area_gaps area
gaps_at areas k area m at =
    ap (λ o. gaps_in o (merged areas)) (region_at areas k area at) ∙ gaps_of_area areas k area (apart_memory areas m) m.laid at

-- there are none past the last region
pub gaps_past : (areas : List Area) (k : ℕ) → length areas ≤ k → gaps_in (slice_get (regions_of areas) k) (merged areas) ≡ []
gaps_past areas k far = ap (λ o. gaps_in o (merged areas)) (past areas k far) where
  past : (areas : List Area) (k : ℕ) → length areas ≤ k → slice_get (regions_of areas) k ≡ None
  past [] k far = refl
  past (x ∷ rest) zero far = absurd (omega (arith, far))
  past (x ∷ rest) (suc k) far = past rest k (omega (arith, far))
