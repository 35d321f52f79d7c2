-- Blocks by number and by address: where one fits, and how much is free, is the same.
use Rattle.std.proofs.Common.{◌≡◌, ℕ, List, [], ◌∷◌, ◌++◌, ◌+◌, map, refl, ap, ◌∙◌, None, Option, Some, ◌&&◌, nat_eq, if◌then◌else◌, is_some, option_map, option_and_then, filter, flat_map, sum_by}
use Rattle.std.proofs.Math.Path.{fun_ext}
use Rattle.execlist.specs.Order.{chosen}
use Rattle.memlist.specs.{declared.gap.Gap.Gap, declared.region.Region.Region, Regions.region_end, Regions.total_size, Blocks.Blocks, Blocks.blocks_in, Blocks.is_in, Blocks.gaps_between, Blocks.gaps, Blocks.stretch, Fit.fit, Fit.avail, Fit.round, Fit.asks, Fit.is_suitable, Fit.lowest_gap, Fit.greatest, Fit.region_pri, Readers.gaps_in}
use Rattle.execmodel.specs.Memory.{extents, place_for}
use Rattle.execheap.specs.Numbered.{Numbered, shown_entry, shown_heap, shown_memory}
use Rattle.execheap.proofs.Entries.{where_key_shown}

-- ---- where a block fits

-- the place and length of a block alone
abbrev bare : Blocks → Blocks
bare blocks = map (λ (e : ℕ × (ℕ × ℕ)). (e.0, (e.1.0, 0))) blocks

extents_of : (s : Numbered) (blocks : Blocks) → extents (map (shown_entry s) blocks) ≡ bare blocks
extents_of s [] = refl
extents_of s (block ∷ rest) = ap (λ z. (block.0, (block.1.0, 0)) ∷ z) (extents_of s rest)

extents_shown : (s : Numbered) → extents (shown_heap s) ≡ bare s.table.memory.blocks
unfolding shown_heap
extents_shown s = extents_of s s.table.memory.blocks

gaps_between_bare : (from : ℕ) (blocks : Blocks) (to : ℕ) → gaps_between from (bare blocks) to ≡ gaps_between from blocks to
gaps_between_bare from [] to = refl
gaps_between_bare from (block ∷ rest) to = ap (λ z. stretch from block.0 ++ z) (gaps_between_bare (block.0 + block.1.0) rest to)

gaps_bare : (blocks : Blocks) (region : Region) → gaps region (bare blocks) ≡ gaps region blocks
unfolding gaps
gaps_bare blocks region =
    ap (λ z. gaps_between region.base z (region_end region)) (where_key_shown (λ (v : ℕ × ℕ). (v.0, 0)) (is_in region) blocks)
    ∙ gaps_between_bare region.base (blocks_in region blocks) (region_end region)

fit_bare : (regions : List Region) (blocks : Blocks) (size reqs : ℕ) → fit regions (bare blocks) size reqs ≡ fit regions blocks size reqs
unfolding fit
fit_bare regions blocks size reqs =
    ap (λ (of : Region → List Gap). if nat_eq size 0 then None
    else option_and_then (λ region. option_map (λ (gap : Gap). gap.address) (lowest_gap (round size) (of region)))
    (chosen region_pri (filter (λ region. is_suitable reqs region && is_some (lowest_gap (round size) (of region))) regions))) (fun_ext (gaps_bare blocks))

avail_bare : (regions : List Region) (blocks : Blocks) (reqs : ℕ) → avail regions (bare blocks) reqs ≡ avail regions blocks reqs
unfolding avail
avail_bare regions blocks reqs =
    ap (λ (of : Region → List Gap).
    let sizes = map (λ (gap : Gap). gap.size) (flat_map of (filter (is_suitable reqs) regions)) in
    if asks 17 reqs then greatest sizes
    else (if asks 19 reqs then total_size (filter (is_suitable reqs) regions) else sum_by (λ n. n) sizes)) (fun_ext (gaps_bare blocks))

-- the gaps that are shown are those that the numbered blocks leave
pub gaps_shown : (s : Numbered) (region : Option Region) → gaps_in region (extents (shown_heap s)) ≡ gaps_in region s.table.memory.blocks
gaps_shown s None = refl
gaps_shown s (Some region) = ap (gaps region) (extents_shown s) ∙ gaps_bare s.table.memory.blocks region

-- a block fits if it fits among the numbered ones
pub fit_shown : (s : Numbered) (size reqs : ℕ) → place_for size reqs (shown_memory s) ≡ fit s.table.memory.regions s.table.memory.blocks size reqs
fit_shown s size reqs = ap (λ blocks. fit s.table.memory.regions blocks size reqs) (extents_shown s) ∙ fit_bare s.table.memory.regions s.table.memory.blocks size reqs

pub avail_shown : (s : Numbered) (reqs : ℕ) → avail s.table.memory.regions (extents (shown_heap s)) reqs ≡ avail s.table.memory.regions s.table.memory.blocks reqs
avail_shown s reqs = ap (λ blocks. avail s.table.memory.regions blocks reqs) (extents_shown s) ∙ avail_bare s.table.memory.regions s.table.memory.blocks reqs
