-- What a header's fields keep: places in the table, and the invariant after a block is put and after one is freed.
use Rattle.std.proofs.Common.{◌≡◌, ◌≢◌, ℕ, zero, suc, ◌+◌, ◌-◌, ◌*◌, ◌/◌, ◌%◌, ◌<◌, ◌≤◌, true, false, cond, List, [], ◌∷◌, ◌++◌, length, set, get_or, replicate, refl, sym, ◌∙◌, ap, subst, arith, length-set, nat_eq, nat_lt, nat_le, ◌&&◌, IsTrue, IsSome, Option, Some, None, sum_by, nat_cmp}
use Rattle.std.specs.{List.AllByRecursion, FinMap.put}
use Rattle.std.proofs.lemmas.{Bool.Decides.nat_tests, List.length-replicate, List.Sums.sum_by-cons, List.Sums.sum_by-append, Bool.and_parts}
use Rattle.memlist.specs.{declared.gap.Gap.Gap, declared.region.Region.Region, declared.slot.Slot.Slot, Regions.region_end, Regions.is_aligned, Regions.is_in_reach, Blocks.Blocks, Blocks.block_at, Blocks.freed, Blocks.is_in, Blocks.stretch, Blocks.gaps_between, Memory.IsLaid, Joins.Around, Chain.IsSpot, Chain.Space, Areas.Area, Areas.IsHeader, Areas.area_gaps, Areas.entries, Areas.block_of}
use Rattle.memlist.proofs.{Answered.cases_eq, Answered.found_here, Answered.found_later, Gaps.stretch_cases, Gaps.taken, Gaps.frees, Slots.entries-put, Slots.entries-freed, Slots.found-entries, Slots.found_between, Chains.laid_ends}

-- Regions

pub from_eq : (a b : ℕ) → nat_eq a b ≡ true → a ≡ b
from_eq a b e = grind (arith, nat_tests, e)

pub from_lt : (a b : ℕ) → nat_lt a b ≡ true → a < b
from_lt a b e = grind (arith, nat_tests, e)

pub from_le : (a b : ℕ) → nat_le a b ≡ true → a ≤ b
from_le a b e = grind (arith, nat_tests, e)

pub record IsAligned (region : Region) : Type 0 where
  pub base : region.base % 8 ≡ 0
  pub size : region.size % 8 ≡ 0
  pub some : 0 < region.size
  pub above : 4096 ≤ region.base

pub aligned_region : (region : Region) → IsTrue (is_aligned region) → IsAligned region
aligned_region region e =
    let a = nat_eq (region.base % 8) 0 in
    let b = nat_eq (region.size % 8) 0 in
    let c = nat_lt 0 region.size in
    let d = nat_le 4096 region.base in
    let three = (and_parts (a && b && c) d e).0 in
    let two = (and_parts (a && b) c three).0 in
    record {
      base = from_eq (region.base % 8) 0 (and_parts a b two).0;
      size = from_eq (region.size % 8) 0 (and_parts a b two).1;
      some = from_lt 0 region.size (and_parts (a && b) c three).1;
      above = from_le 4096 region.base (and_parts (a && b && c) d e).1;
    }

pub reach_region : (region : Region) → IsTrue (is_in_reach region) → region_end region ≤ 2147483648
reach_region region e = from_le (region_end region) 2147483648 e

pub record IsInside (region : Region) (address : ℕ) : Type 0 where
  pub low : region.base ≤ address
  pub high : address < region_end region

pub inside_region : (region : Region) (address : ℕ) → IsTrue (is_in region address) → IsInside region address
inside_region region address e =
    let a = nat_le region.base address in
    let b = nat_lt address (region_end region) in
    record { low = from_le region.base address (and_parts a b e).0; high = from_lt address (region_end region) (and_parts a b e).1 }

-- Blocks and gaps lie within their region

pub record IsWithin (from to address size : ℕ) : Type 0 where
  pub low : from ≤ address
  pub high : address + size ≤ to
  pub some : 0 < size
  pub place : address % 8 ≡ 0
  pub whole : size % 8 ≡ 0

within_more : (from low to address size : ℕ) → from ≤ low → IsWithin low to address size → IsWithin from to address size
within_more from low to address size h w = record { low = omega (arith, w.low); high = w.high; some = w.some; place = w.place; whole = w.whole }

pub block_within : (from : ℕ) (blocks : Blocks) (to address n tag : ℕ) → IsLaid from blocks to → block_at address blocks ≡ Some (n, tag) → IsWithin from to address n
block_within from [] to address n tag laid found = cc
block_within from (block ∷ rest) to address n tag laid found =
    cases_eq block.0 address
    (λ same.
    let here : block.1 ≡ (n, tag) = found_here address block (n, tag) rest same found in
    let size : block.1.0 ≡ n = ap (λ (v : ℕ × ℕ). v.0) here in
    subst (λ a. IsWithin from to a n) same
    (subst (λ m. IsWithin from to block.0 m) size
    record { low = laid.0; high = laid_ends (block.0 + block.1.0) rest to laid.4; some = laid.1; place = laid.2; whole = laid.3 }))
    (λ other.
    within_more from (block.0 + block.1.0) to address n (omega (arith, laid.0))
    (block_within (block.0 + block.1.0) rest to address n tag laid.4 (found_later address block (Some (n, tag)) rest other found)))

abbrev pub IsGapWithin : ℕ → ℕ → Gap → Type 0
IsGapWithin from to gap = IsWithin from to gap.address gap.size

gaps_within_more : (from low to : ℕ) (free : List Gap) → from ≤ low → AllByRecursion (IsGapWithin low to) free → AllByRecursion (IsGapWithin from to) free
gaps_within_more from low to [] h all = tt
gaps_within_more from low to (gap ∷ rest) h all = (within_more from low to gap.address gap.size h all.0, gaps_within_more from low to rest h all.1)

pub gaps_within : (from : ℕ) (blocks : Blocks) (to : ℕ) → from % 8 ≡ 0 → to % 8 ≡ 0 → IsLaid from blocks to → AllByRecursion (IsGapWithin from to) (gaps_between from blocks to)
gaps_within from [] to a b laid =
    stretch_cases (AllByRecursion (IsGapWithin from to)) from to
    (λ lt. (record { low = omega arith; high = omega arith; some = omega arith; place = a; whole = omega arith }, tt)) (λ le. tt)
gaps_within from (block ∷ rest) to a b laid =
    let high = laid_ends (block.0 + block.1.0) rest to laid.4 in
    let later = gaps_within_more from (block.0 + block.1.0) to (gaps_between (block.0 + block.1.0) rest to) (omega (arith, laid.0))
    (gaps_within (block.0 + block.1.0) rest to (omega (arith, laid.2, laid.3)) b laid.4) in
    stretch_cases (λ gap. AllByRecursion (IsGapWithin from to) (gap ++ gaps_between (block.0 + block.1.0) rest to)) from block.0
    (λ lt. (record { low = omega arith; high = omega (arith, high); some = omega arith; place = a; whole = omega (arith, laid.2) }, later)) (λ le. later)

-- the bytes of the gaps and of the blocks
pub sizes_fill : (from : ℕ) (blocks : Blocks) (to : ℕ) → IsLaid from blocks to
    → from + sum_by (λ (gap : Gap). gap.size) (gaps_between from blocks to) + sum_by (λ (block : ℕ × (ℕ × ℕ)). block.1.0) blocks ≡ to
sizes_fill from [] to laid = stretch_cases (λ gap. from + sum_by (λ (gap : Gap). gap.size) gap + 0 ≡ to) from to (λ lt. omega arith) (λ le. omega arith)
sizes_fill from (block ∷ rest) to laid =
    let later = sizes_fill (block.0 + block.1.0) rest to laid.4 in
    let gaps = sum_by-append (λ (gap : Gap). gap.size) (stretch from block.0) (gaps_between (block.0 + block.1.0) rest to) in
    let blocks = sum_by-cons (λ (block : ℕ × (ℕ × ℕ)). block.1.0) block rest in
    let first : sum_by (λ (gap : Gap). gap.size) (stretch from block.0) ≡ block.0 - from =
    stretch_cases (λ gap. sum_by (λ (gap : Gap). gap.size) gap ≡ block.0 - from) from block.0 (λ lt. omega arith) (λ le. omega arith) in
    omega (arith, laid.0, later, gaps, blocks, first)

-- Places in the table

pub place_within : (region : Region) (slots : List Slot) (address : ℕ) → 8 * length slots ≡ region.size → region.base ≤ address → address < region_end region
    → (address - region.base) / 8 < length slots
place_within region slots address units low high = omega arith

pub place_of_unit : (base address : ℕ) → base % 8 ≡ 0 → address % 8 ≡ 0 → base ≤ address → address ≡ base + 8 * ((address - base) / 8)
place_of_unit base address a b low = omega arith

filled_slot : (slot : Slot) (v : ℕ × ℕ) → block_of slot ≡ Some v → block_of slot ≡ Some (slot.size, slot.tag)
filled_slot slot v e =
    let block : ℕ × ℕ = (slot.size, slot.tag) in
    elim (nat_eq slot.size 0) as (λ b. cond b None (Some block) ≡ Some v → cond b None (Some block) ≡ Some block) [
      | true ↦ λ f. cc
      | false ↦ λ f. refl
    ] e

-- A table in which no block begins

-- what a header keeps, and what its blocks are
pub record Keeps (region : Region) (slots : List Slot) (space : Space) (blocks : Blocks) : Type 0 where
  pub header : IsHeader region slots space
  pub shown : entries region.base slots ≡ blocks

pub entries-empty : (from n : ℕ) → entries from (replicate n (record { size = 0; tag = 0 })) ≡ []
entries-empty from zero = refl
entries-empty from (suc n) = entries-empty (from + 8) n

pub new_header : (region : Region) (slots : List Slot) (space : Space) → IsTrue (is_aligned region) → IsTrue (is_in_reach region)
    → slots ≡ replicate (region.size / 8) (record { size = 0; tag = 0 })
    → space ≡ record { base = region.base; end = region_end region; gaps = stretch region.base (region_end region) }
    → Keeps region slots space []
new_header region slots space aligned reach empty whole =
    let a = aligned_region region aligned in
    let blocks = ap (entries region.base) empty ∙ entries-empty region.base (region.size / 8) in
    let units = ap (λ (xs : List Slot). length xs) empty ∙ length-replicate (region.size / 8) (record { size = 0; tag = 0 }) in
    record {
      header = record {
        aligned = aligned;
        in_reach = reach;
        units = omega (arith, units, a.size);
        laid = subst (λ bs. IsLaid region.base bs (region_end region)) (sym blocks) (omega arith);
        base = ap (λ (s : Space). s.base) whole;
        end = ap (λ (s : Space). s.end) whole;
        free = ap (λ (s : Space). s.gaps) whole ∙ ap (λ bs. gaps_between region.base bs (region_end region)) (sym blocks);
      };
      shown = blocks;
    }

pub among : (P : Gap → Type 0) (xs : List Gap) (gap : Gap) (ys : List Gap) → AllByRecursion P (xs ++ gap ∷ ys) → P gap
among P [] gap ys all = all.0
among P (x ∷ xs) gap ys all = among P xs gap ys all.1

-- A block is put

pub end_aligned : (region : Region) → IsAligned region → region_end region % 8 ≡ 0
end_aligned region a = omega (arith, a.base, a.size)

module _ (region : Region) (slots : List Slot) (space : Space) (h : IsHeader region slots space) where
  -- if a gap begins, there is its unit
  pub spot_within : (n before : ℕ) (spot : IsSpot n space.gaps before) → IsGapWithin region.base (region_end region) spot.gap
  spot_within n before spot =
      let a = aligned_region region h.aligned in
      let all : AllByRecursion (IsGapWithin region.base (region_end region)) (spot.below ++ spot.gap ∷ spot.above) =
      subst (AllByRecursion (IsGapWithin region.base (region_end region))) (sym h.free ∙ spot.is)
      (gaps_within region.base (entries region.base slots) (region_end region) a.base (end_aligned region a) h.laid) in
      among (IsGapWithin region.base (region_end region)) spot.below spot.gap spot.above all

  pub keeps_taken : (before n tag unit : ℕ) (spot : IsSpot n space.gaps before) → 0 < n → n % 8 ≡ 0 → unit ≡ (spot.gap.address - region.base) / 8
      → Keeps region (set slots unit (record { size = n; tag = tag }))
      (record space { gaps = spot.below ++ (stretch (spot.gap.address + n) (spot.gap.address + spot.gap.size) ++ spot.above) })
      (put nat_cmp spot.gap.address (n, tag) (entries region.base slots))
  keeps_taken before n tag unit spot some whole is_unit =
      let a = aligned_region region h.aligned in
      let w = spot_within n before spot in
      let slot : Slot = record { size = n; tag = tag } in
      let gap = spot.gap in
      let t = taken region.base (entries region.base slots) (region_end region) n tag spot.below gap spot.above some whole a.base spot.fits h.laid (sym h.free ∙ spot.is) in
      let inside = place_within region slots gap.address h.units w.low (omega (arith, w.high, w.some)) in
      let blocks = entries-put region.base gap.address slots unit n tag (subst (λ k. k < length slots) (sym is_unit) inside) some
      (place_of_unit region.base gap.address a.base w.place w.low ∙ ap (λ k. region.base + 8 * k) (sym is_unit)) in
      record {
        header = record {
          aligned = h.aligned;
          in_reach = h.in_reach;
          units = ap (λ k. 8 * k) (length-set slots unit slot) ∙ h.units;
          laid = subst (λ bs. IsLaid region.base bs (region_end region)) (sym blocks) t.laid;
          base = h.base;
          end = h.end;
          free = sym t.gaps ∙ ap (λ bs. gaps_between region.base bs (region_end region)) (sym blocks);
        };
        shown = blocks;
      }

  pub live_within : (address n tag : ℕ) → block_at address (entries region.base slots) ≡ Some (n, tag) → IsWithin region.base (region_end region) address n
  live_within address n tag found = block_within region.base (entries region.base slots) (region_end region) address n tag h.laid found

  -- the gaps round a block, and what they are once it is freed
  pub round_freed : (address n tag : ℕ) → block_at address (entries region.base slots) ≡ Some (n, tag) → Around space.gaps address n
  round_freed address n tag found =
      let f = frees region.base (entries region.base slots) (region_end region) address n tag h.laid found in
      record {
        below = f.around.below;
        start = f.around.start;
        end = f.around.end;
        above = f.around.above;
        is = h.free ∙ f.around.is;
        low = f.around.low;
        high = f.around.high;
        ended = f.around.ended;
        begun = f.around.begun;
      }

  pub keeps_freed : (address n tag unit : ℕ) (space' : Space) → block_at address (entries region.base slots) ≡ Some (n, tag) → unit ≡ (address - region.base) / 8
      → ((around : Around space.gaps address n) → space' ≡ record space { gaps = around.below ++ record { address = around.start; size = around.end - around.start } ∷ around.above })
      → Keeps region (set slots unit (record { size = 0; tag = 0 })) space' (freed address (entries region.base slots))
  unfolding round_freed
  keeps_freed address n tag unit space' found is_unit joined =
      let a = aligned_region region h.aligned in
      let w = live_within address n tag found in
      let slot : Slot = record { size = 0; tag = 0 } in
      let f = frees region.base (entries region.base slots) (region_end region) address n tag h.laid found in
      let is = joined (round_freed address n tag found) in
      let inside = place_within region slots address h.units w.low (omega (arith, w.high, w.some)) in
      let blocks = entries-freed region.base address slots unit 0 (subst (λ k. k < length slots) (sym is_unit) inside)
      (place_of_unit region.base address a.base w.place w.low ∙ ap (λ k. region.base + 8 * k) (sym is_unit)) in
      record {
        header = record {
          aligned = h.aligned;
          in_reach = h.in_reach;
          units = ap (λ k. 8 * k) (length-set slots unit slot) ∙ h.units;
          laid = subst (λ bs. IsLaid region.base bs (region_end region)) (sym blocks) f.laid;
          base = ap (λ (s : Space). s.base) is ∙ h.base;
          end = ap (λ (s : Space). s.end) is ∙ h.end;
          free = ap (λ (s : Space). s.gaps) is ∙ sym f.after ∙ ap (λ bs. gaps_between region.base bs (region_end region)) (sym blocks);
        };
        shown = blocks;
      }

  pub found_slot : (address unit : ℕ) (slot : Slot) → IsTrue (is_in region address) → address % 8 ≡ 0 → unit ≡ (address - region.base) / 8 → slot ≡ get_or slots unit slot
      → block_of slot ≡ block_at address (entries region.base slots)
  found_slot address unit slot inside whole is_unit is =
      let a = aligned_region region h.aligned in
      let i = inside_region region address inside in
      ap block_of is
      ∙ sym (found-entries region.base address slots unit slot (subst (λ k. k < length slots) (sym is_unit) (place_within region slots address h.units i.low i.high))
      (place_of_unit region.base address a.base whole i.low ∙ ap (λ k. region.base + 8 * k) (sym is_unit)))

  pub found_odd : (address : ℕ) → address % 8 ≢ 0 → block_at address (entries region.base slots) ≡ None
  found_odd address odd = found_between address region.base (entries region.base slots) (region_end region) odd h.laid

  pub free_bound : sum_by (λ (gap : Gap). gap.size) space.gaps ≤ region.size
  free_bound =
      let fill = sizes_fill region.base (entries region.base slots) (region_end region) h.laid in
      let gaps = ap (λ (gs : List Gap). sum_by (λ (gap : Gap). gap.size) gs) h.free in
      omega (arith, fill, gaps)

  live_slot : (address unit : ℕ) (o : Option (ℕ × ℕ)) → block_at address (entries region.base slots) ≡ o → IsSome o → unit ≡ (address - region.base) / 8 → (slot : Slot) → slot ≡ get_or slots unit slot
      → block_at address (entries region.base slots) ≡ Some (slot.size, slot.tag)
  live_slot address unit None found some is_unit slot is = cc
  live_slot address unit (Some v) found some is_unit slot is =
      let a = aligned_region region h.aligned in
      let w = live_within address v.0 v.1 found in
      let inside = place_within region slots address h.units w.low (omega (arith, w.high, w.some)) in
      let at = found-entries region.base address slots unit slot (subst (λ k. k < length slots) (sym is_unit) inside)
      (place_of_unit region.base address a.base w.place w.low ∙ ap (λ k. region.base + 8 * k) (sym is_unit)) ∙ ap block_of (sym is) in
      at ∙ filled_slot slot v (sym at ∙ found)

  -- the slot of a block that lives says what the block is
  pub lives : (address unit : ℕ) → IsSome (block_at address (entries region.base slots)) → unit ≡ (address - region.base) / 8 → (slot : Slot) → slot ≡ get_or slots unit slot
      → block_at address (entries region.base slots) ≡ Some (slot.size, slot.tag)
  lives address unit some is_unit slot is = live_slot address unit (block_at address (entries region.base slots)) refl some is_unit slot is

  inside_by : (address : ℕ) (o : Option (ℕ × ℕ)) → block_at address (entries region.base slots) ≡ o → IsSome o → IsInside region address
  inside_by address None found some = cc
  inside_by address (Some v) found some = let w = live_within address v.0 v.1 found in record { low = w.low; high = omega (arith, w.high, w.some) }

  pub live_inside : (address : ℕ) → IsSome (block_at address (entries region.base slots)) → IsInside region address
  live_inside address some = inside_by address (block_at address (entries region.base slots)) refl some

-- the same block, seen in the header's value
pub live_shown : (region : Region) (slots : List Slot) (area : Area) (address : ℕ) → record { region = region; blocks = entries region.base slots } ≡ area
    → IsSome (block_at address area.blocks) → IsSome (block_at address (entries region.base slots))
live_shown region slots area address is some = subst (λ (a : Area). IsSome (block_at address a.blocks)) (sym is) some

pub gaps_shown : (region : Region) (slots : List Slot) (space : Space) (area : Area) → IsHeader region slots space
    → record { region = region; blocks = entries region.base slots } ≡ area → space.gaps ≡ area_gaps area
gaps_shown region slots space area h is = h.free ∙ ap area_gaps is
