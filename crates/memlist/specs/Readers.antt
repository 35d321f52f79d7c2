-- What is read of the gaps of a memory, one after another.
use Rattle.std.specs.Prelude.{ℕ, nat_le, List, [], Option, None, Some, find}
use Rattle.memlist.specs.{declared.gap.Gap.Gap, declared.region.Region.Region, Blocks.Blocks, Blocks.gaps}

-- the lowest gap that begins at an address or above it
abbrev pub gap_from : ℕ → List Gap → Option Gap
gap_from address free = find (λ (gap : Gap). nat_le address gap.address) free

-- the gaps that blocks leave in a region, if there is one
abbrev pub gaps_in : Option Region → Blocks → List Gap
gaps_in None blocks = []
gaps_in (Some region) blocks = gaps region blocks
