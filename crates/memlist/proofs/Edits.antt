-- The gaps round a block that is freed.
use Rattle.std.proofs.Common.{◌≡◌, ℕ, ◌+◌, ◌-◌, ◌<◌, ◌≤◌, List, [], ◌∷◌, ◌++◌, sym, ◌∙◌, arith, append_assoc}
use Rattle.std.specs.List.{AllByRecursion}
use Rattle.memlist.specs.{declared.gap.Gap.Gap, Blocks.stretch, Joins.IsSpread, Joins.AllEndBefore, Joins.Around}
use Rattle.memlist.proofs.Gaps.{stretch_cases}

below_by : (address start : ℕ) (below : List Gap) → start ≤ address → AllEndBefore start below → AllByRecursion (λ (gap : Gap). gap.address < address) below
below_by address start [] h all = tt
below_by address start (gap ∷ rest) h all = (omega (arith, all.0), below_by address start rest h all.1)

above_by : (address low : ℕ) (above : List Gap) → address ≤ low → IsSpread low above → AllByRecursion (λ (gap : Gap). address ≤ gap.address) above
above_by address low [] h s = tt
above_by address low (gap ∷ rest) h s = (omega (arith, s.0), above_by address (gap.address + gap.size + 1) rest (omega (arith, s.0)) s.2)

by_append : (P : Gap → Type 0) (xs ys : List Gap) → AllByRecursion P xs → AllByRecursion P ys → AllByRecursion P (xs ++ ys)
by_append P [] ys a b = b
by_append P (x ∷ xs) ys a b = (a.0, by_append P xs ys a.1 b)

-- what is before the block, and what is at or after it
abbrev pub front : {free : List Gap} {address n : ℕ} → Around free address n → List Gap
front {address = address} around = around.below ++ stretch around.start address

abbrev pub back : {free : List Gap} {address n : ℕ} → Around free address n → List Gap
back {address = address} {n = n} around = stretch (address + n) around.end ++ around.above

-- the gaps once it is freed: one from start to end in place of what it touches
abbrev pub joined : {free : List Gap} {address n : ℕ} → Around free address n → List Gap
joined around = around.below ++ record { address = around.start; size = around.end - around.start } ∷ around.above

pub front_back : {free : List Gap} {address n : ℕ} (around : Around free address n) → free ≡ front around ++ back around
front_back {address = address} {n = n} around = around.is ∙ sym (append_assoc around.below (stretch around.start address) (stretch (address + n) around.end ++ around.above))

pub front_below : {free : List Gap} {address n : ℕ} (around : Around free address n) → AllByRecursion (λ (gap : Gap). gap.address < address) (front around)
front_below {address = address} around =
    by_append (λ (gap : Gap). gap.address < address) around.below (stretch around.start address) (below_by address around.start around.below around.low around.ended)
    (stretch_cases (AllByRecursion (λ (gap : Gap). gap.address < address)) around.start address (λ lt. (lt, tt)) (λ le. tt))

pub back_above : {free : List Gap} {address n : ℕ} (around : Around free address n) → AllByRecursion (λ (gap : Gap). address ≤ gap.address) (back around)
back_above {address = address} {n = n} around =
    by_append (λ (gap : Gap). address ≤ gap.address) (stretch (address + n) around.end) around.above
    (stretch_cases (AllByRecursion (λ (gap : Gap). address ≤ gap.address)) (address + n) around.end (λ lt. (omega arith, tt)) (λ le. tt))
    (above_by address (around.end + 1) around.above (omega (arith, around.high)) around.begun)
