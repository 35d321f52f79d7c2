-- How blocks and gaps tile a region.
use Rattle.std.proofs.Common.{◌≡◌, ◌⊎◌, ℕ, zero, suc, ◌+◌, ◌-◌, ◌%◌, ◌<◌, ◌≤◌, Bool, true, false, cond, List, [], ◌∷◌, ◌++◌, length, get_or, map, refl, sym, ◌∙◌, ap, subst, arith, ⊎_elim, inl, inr, nat_le, ◌&&◌, Some, slice_get, Any, count_by, sum_by}
use Rattle.std.specs.List.{AllByRecursion, list_all}
use Rattle.std.proofs.lemmas.{Bool.cases_lt, Bool.and_parts, Bool.Decides.nat_tests, List.Elements.All-from_recursion, List.Sums.sum_by-append, List.Sums.sum_by-cons}
use Rattle.memlist.specs.{declared.gap.Gap.Gap, declared.region.Region.Region, Regions.is_aligned, Regions.region_end, Blocks.Blocks, Blocks.blocks_in, Blocks.gaps, Blocks.gaps_between, Blocks.stretch, Memory.AreLaid, Memory.IsLaid, Memory.IsWellFormed, Pieces.IsMaximal, Pieces.IsTiled, Pieces.holds_unit, Pieces.stretch_of, Joins.IsSpread}
use Rattle.memlist.proofs.{Gaps.spread_gaps, Gaps.stretch_cases, Headers.IsAligned, Headers.aligned_region, Headers.end_aligned, Headers.sizes_fill}

-- Units

pub nat_le-true : (a b : ℕ) → a ≤ b → nat_le a b ≡ true
nat_le-true a b h = grind (arith, nat_tests)

nat_le-false : (a b : ℕ) → b < a → nat_le a b ≡ false
nat_le-false a b h = grind (arith, nat_tests)

held : (unit : ℕ) (piece : Gap) → piece.address ≤ unit → unit + 8 ≤ piece.address + piece.size → holds_unit unit piece ≡ true
held unit piece low high = ap (λ b. b && nat_le (unit + 8) (piece.address + piece.size)) (nat_le-true piece.address unit low) ∙ nat_le-true (unit + 8) (piece.address + piece.size) high

not_held_below : (unit : ℕ) (piece : Gap) → unit < piece.address → holds_unit unit piece ≡ false
not_held_below unit piece h = ap (λ b. b && nat_le (unit + 8) (piece.address + piece.size)) (nat_le-false piece.address unit h)

and_false : (b : Bool) → b && false ≡ false
and_false true = refl
and_false false = refl

not_held_above : (unit : ℕ) (piece : Gap) → piece.address + piece.size ≤ unit → holds_unit unit piece ≡ false
not_held_above unit piece h = ap (λ b. nat_le piece.address unit && b) (nat_le-false (unit + 8) (piece.address + piece.size) (omega arith)) ∙ and_false (nat_le piece.address unit)

abbrev weight : Bool → ℕ
weight b = cond b 1 0

one : (unit : ℕ) (piece : Gap) (b : Bool) → holds_unit unit piece ≡ b → count_by (holds_unit unit) (piece ∷ []) ≡ cond b 1 0
one unit piece true e = ap (λ t. 0 + cond t 1 0) e
one unit piece false e = ap (λ t. 0 + cond t 1 0) e

stretch_in : (unit from to : ℕ) → unit % 8 ≡ 0 → to % 8 ≡ 0 → from ≤ unit → unit < to → count_by (holds_unit unit) (stretch from to) ≡ 1
stretch_in unit from to u b low high =
    stretch_cases (λ gap. count_by (holds_unit unit) gap ≡ 1) from to
    (λ lt. one unit (record { address = from; size = to - from }) true (held unit (record { address = from; size = to - from }) low (omega arith)))
    (λ le. absurd (omega arith))

stretch_out : (unit from to : ℕ) → (unit < from) ⊎ (to ≤ unit) → count_by (holds_unit unit) (stretch from to) ≡ 0
stretch_out unit from to out =
    stretch_cases (λ gap. count_by (holds_unit unit) gap ≡ 0) from to
    (λ lt. one unit (record { address = from; size = to - from }) false
    (⊎_elim (λ (h : unit < from). not_held_below unit (record { address = from; size = to - from }) h) (λ (h : to ≤ unit). not_held_above unit (record { address = from; size = to - from }) (omega arith)) out))
    (λ le. refl)

-- how many of the blocks and gaps between two addresses hold a unit
count : ℕ → ℕ → Blocks → ℕ → ℕ
count unit from blocks to = count_by (holds_unit unit) (map stretch_of blocks) + count_by (holds_unit unit) (gaps_between from blocks to)

count-cons : (unit from : ℕ) (block : ℕ × (ℕ × ℕ)) (rest : Blocks) (to : ℕ)
    → count unit from (block ∷ rest) to ≡ cond (holds_unit unit (stretch_of block)) 1 0 + count_by (holds_unit unit) (stretch from block.0) + count unit (block.0 + block.1.0) rest to
unfolding count
count-cons unit from block rest to =
    let blocks = sum_by-cons (λ (piece : Gap). cond (holds_unit unit piece) 1 0) (stretch_of block) (map stretch_of rest) in
    let gaps = sum_by-append (λ (piece : Gap). cond (holds_unit unit piece) 1 0) (stretch from block.0) (gaps_between (block.0 + block.1.0) rest to) in
    omega (arith, blocks, gaps)

count_below : (unit from : ℕ) (blocks : Blocks) (to : ℕ) → unit < from → IsLaid from blocks to → count unit from blocks to ≡ 0
unfolding count
count_below unit from [] to h laid = let gap = stretch_out unit from to (inl h) in omega (arith, gap)
count_below unit from (block ∷ rest) to h laid =
    let here = ap weight (not_held_below unit (stretch_of block) (omega (arith, laid.0))) in
    let gap = stretch_out unit from block.0 (inl h) in
    let later = count_below unit (block.0 + block.1.0) rest to (omega (arith, laid.0)) laid.4 in
    omega (arith, here, gap, later, count-cons unit from block rest to)

count_one : (unit from : ℕ) (blocks : Blocks) (to : ℕ) → unit % 8 ≡ 0 → to % 8 ≡ 0 → from ≤ unit → unit < to → IsLaid from blocks to → count unit from blocks to ≡ 1
unfolding count
count_one unit from [] to u b low high laid = let gap = stretch_in unit from to u b low high in omega (arith, gap)
count_one unit from (block ∷ rest) to u b low high laid =
    let split = count-cons unit from block rest to in
    ⊎_elim
    (λ (before : unit < block.0).
    let here = ap weight (not_held_below unit (stretch_of block) before) in
    let gap = stretch_in unit from block.0 u laid.2 low before in
    let later = count_below unit (block.0 + block.1.0) rest to (omega arith) laid.4 in
    omega (arith, here, gap, later, split))
    (λ (from_block : block.0 ≤ unit). ⊎_elim
    (λ (inside : unit < block.0 + block.1.0).
    let here = ap weight (held unit (stretch_of block) from_block (omega (arith, laid.2, laid.3))) in
    let gap = stretch_out unit from block.0 (inr from_block) in
    let later = count_below unit (block.0 + block.1.0) rest to inside laid.4 in
    omega (arith, here, gap, later, split))
    (λ (after : block.0 + block.1.0 ≤ unit).
    let here = ap weight (not_held_above unit (stretch_of block) after) in
    let gap = stretch_out unit from block.0 (inr from_block) in
    let later = count_one unit (block.0 + block.1.0) rest to u b after high laid.4 in
    omega (arith, here, gap, later, split))
    (cases_lt unit (block.0 + block.1.0)))
    (cases_lt unit block.0)

-- Maximal gaps

any_here : {X : Type 0} (P : X → Type 0) (x : X) (xs : List X) → P x → Any P (x ∷ xs)
any_here P x xs h = (0, x, omega arith, refl, h)

any_later : {X : Type 0} (P : X → Type 0) (x : X) (xs : List X) → Any P xs → Any P (x ∷ xs)
any_later P x xs (k, y, within, is, h) = (suc k, y, omega arith, is, h)

-- a gap is bounded by blocks, or by the addresses between which they lie
record IsBounded (from : ℕ) (blocks : Blocks) (to : ℕ) (gap : Gap) : Type 0 where
  some : 0 < gap.size
  below : (gap.address ≡ from) ⊎ Any (λ (block : ℕ × (ℕ × ℕ)). block.0 + block.1.0 ≡ gap.address) blocks
  above : (gap.address + gap.size ≡ to) ⊎ Any (λ (block : ℕ × (ℕ × ℕ)). block.0 ≡ gap.address + gap.size) blocks

bounded_more : (from : ℕ) (block : ℕ × (ℕ × ℕ)) (rest : Blocks) (to : ℕ) (free : List Gap) → AllByRecursion (IsBounded (block.0 + block.1.0) rest to) free → AllByRecursion (IsBounded from (block ∷ rest) to) free
bounded_more from block rest to [] all = tt
bounded_more from block rest to (gap ∷ free) all = (
  record {
    some = all.0.some;
    below = ⊎_elim
        (λ (e : gap.address ≡ block.0 + block.1.0). inr (any_here (λ (b : ℕ × (ℕ × ℕ)). b.0 + b.1.0 ≡ gap.address) block rest (sym e)))
        (λ (any : Any (λ (b : ℕ × (ℕ × ℕ)). b.0 + b.1.0 ≡ gap.address) rest). inr (any_later (λ (b : ℕ × (ℕ × ℕ)). b.0 + b.1.0 ≡ gap.address) block rest any))
        all.0.below;
    above = ⊎_elim
        (λ (e : gap.address + gap.size ≡ to). inl e)
        (λ (any : Any (λ (b : ℕ × (ℕ × ℕ)). b.0 ≡ gap.address + gap.size) rest). inr (any_later (λ (b : ℕ × (ℕ × ℕ)). b.0 ≡ gap.address + gap.size) block rest any))
        all.0.above;
  },
  bounded_more from block rest to free all.1,
)

bounded : (from : ℕ) (blocks : Blocks) (to : ℕ) → AllByRecursion (IsBounded from blocks to) (gaps_between from blocks to)
bounded from [] to =
    stretch_cases (AllByRecursion (IsBounded from [] to)) from to
    (λ lt. (record { some = omega arith; below = inl refl; above = inl (let e : from + (to - from) ≡ to = omega arith in e) }, tt)) (λ le. tt)
bounded from (block ∷ rest) to =
    let later = bounded_more from block rest to (gaps_between (block.0 + block.1.0) rest to) (bounded (block.0 + block.1.0) rest to) in
    stretch_cases (λ gap. AllByRecursion (IsBounded from (block ∷ rest) to) (gap ++ gaps_between (block.0 + block.1.0) rest to)) from block.0
    (λ lt. (
      record {
        some = omega arith;
        below = inl refl;
        above = inr (any_here (λ (b : ℕ × (ℕ × ℕ)). b.0 ≡ from + (block.0 - from)) block rest (let e : block.0 ≡ from + (block.0 - from) = omega arith in e));
      },
      later,
    ))
    (λ le. later)

maximal : (region : Region) (blocks : Blocks) (free : List Gap) → AllByRecursion (IsBounded region.base (blocks_in region blocks) (region_end region)) free → AllByRecursion (IsMaximal region blocks) free
maximal region blocks [] all = tt
maximal region blocks (gap ∷ free) all = (record { some = all.0.some; below = all.0.below; above = all.0.above }, maximal region blocks free all.1)

spread_low : (low : ℕ) (free : List Gap) (k : ℕ) (d : Gap) → k < length free → IsSpread low free → low ≤ (get_or free k d).address
spread_low low [] k d within s = absurd (omega arith)
spread_low low (gap ∷ rest) zero d within s = s.0
spread_low low (gap ∷ rest) (suc k) d within s = let later = spread_low (gap.address + gap.size + 1) rest k d (omega arith) s.2 in omega (arith, s.0, later)

spread_pairs : (low : ℕ) (free : List Gap) (i j : ℕ) (d : Gap) → IsSpread low free → i < j → j < length free → (get_or free i d).address + (get_or free i d).size < (get_or free j d).address
spread_pairs low [] i j d s lt within = absurd (omega arith)
spread_pairs low (gap ∷ rest) i zero d s lt within = absurd (omega arith)
spread_pairs low (gap ∷ rest) zero (suc j) d s lt within = let later = spread_low (gap.address + gap.size + 1) rest j d (omega arith) s.2 in omega (arith, later)
spread_pairs low (gap ∷ rest) (suc i) (suc j) d s lt within = spread_pairs (gap.address + gap.size + 1) rest i j d s.2 (omega arith) (omega arith)

sizes_of_stretches : (blocks : Blocks) → sum_by (λ (piece : Gap). piece.size) (map stretch_of blocks) ≡ sum_by (λ (block : ℕ × (ℕ × ℕ)). block.1.0) blocks
sizes_of_stretches [] = refl
sizes_of_stretches (block ∷ rest) =
    let a = sum_by-cons (λ (piece : Gap). piece.size) (stretch_of block) (map stretch_of rest) in
    let b = sum_by-cons (λ (block : ℕ × (ℕ × ℕ)). block.1.0) block rest in
    let later = sizes_of_stretches rest in
    omega (arith, a, b, later)

pub laid_at : (regions : List Region) (blocks : Blocks) (place : ℕ) (region : Region) → slice_get regions place ≡ Some region → AreLaid regions blocks → IsLaid region.base (blocks_in region blocks) (region_end region)
laid_at [] blocks place region at laid = cc
laid_at (x ∷ rest) blocks zero region at laid = let here : x ≡ region = cc in subst (λ (r : Region). IsLaid r.base (blocks_in r blocks) (region_end r)) here laid.0
laid_at (x ∷ rest) blocks (suc place) region at laid = laid_at rest blocks place region at laid.1

pub aligned_in : (regions : List Region) (place : ℕ) (region : Region) → slice_get regions place ≡ Some region → list_all is_aligned regions ≡ true → IsAligned region
aligned_in [] place region at e = cc
aligned_in (x ∷ rest) zero region at e = let here : x ≡ region = cc in subst IsAligned here (aligned_region x (and_parts (is_aligned x) (list_all is_aligned rest) e).0)
aligned_in (x ∷ rest) (suc place) region at e = aligned_in rest place region at (and_parts (is_aligned x) (list_all is_aligned rest) e).1

pub tiled : (regions : List Region) (blocks : Blocks) (place : ℕ) (region : Region) → IsWellFormed regions blocks → slice_get regions place ≡ Some region → IsTiled region blocks
unfolding gaps count
tiled regions blocks place region w at =
    let laid = laid_at regions blocks place region at w.laid in
    let a = aligned_in regions place region at w.aligned in
    let mine = blocks_in region blocks in
    let free = gaps_between region.base mine (region_end region) in
    record {
      once = λ unit u low high.
          sum_by-append (λ (piece : Gap). cond (holds_unit unit piece) 1 0) (map stretch_of mine) free ∙ count_one unit region.base mine (region_end region) u (end_aligned region a) low high laid;
      sizes =
          let parts = sum_by-append (λ (piece : Gap). piece.size) (map stretch_of mine) free in
          omega (arith, parts, sizes_of_stretches mine, sizes_fill region.base mine (region_end region) laid);
      maximal = All-from_recursion (IsMaximal region blocks) free (maximal region blocks free (bounded region.base mine (region_end region)));
      apart = λ i j d lt within. spread_pairs region.base free i j d (spread_gaps region.base mine (region_end region) laid) lt within;
    }
