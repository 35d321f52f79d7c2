-- Blocks and gaps side by side: what the laws of memory say.
use Rattle.std.specs.Prelude.{◌≡◌, ◌⊎◌, ◌+◌, ◌%◌, ◌<◌, ◌≤◌, ◌&&◌, ◌++◌, List, Bool, map, nat_le, ℕ, All, AllPairs, Any, count_by, sum_by}
use Rattle.memlist.specs.{declared.gap.Gap.Gap, declared.region.Region.Region, Regions.region_end, Blocks.Blocks, Blocks.blocks_in, Blocks.gaps}

-- the stretch that a block takes up
abbrev pub stretch_of : ℕ × (ℕ × ℕ) → Gap
stretch_of block = record { address = block.0; size = block.1.0 }

-- the stretches of a region's blocks and gaps
abbrev pub pieces : Region → Blocks → List Gap
pieces region blocks = map stretch_of (blocks_in region blocks) ++ gaps region blocks

-- whether the unit of 8 bytes at an address lies whole in a piece
abbrev pub holds_unit : ℕ → Gap → Bool
holds_unit unit piece = nat_le piece.address unit && nat_le (unit + 8) (piece.address + piece.size)

-- A gap of a region goes as far as it can: from the region's base or the end of a block up to the region's end or
-- the address of a block.
pub record IsMaximal (region : Region) (blocks : Blocks) (gap : Gap) : Type 0 where
  pub some : 0 < gap.size
  pub below : (gap.address ≡ region.base) ⊎ Any (λ (block : ℕ × (ℕ × ℕ)). block.0 + block.1.0 ≡ gap.address) (blocks_in region blocks)
  pub above : (gap.address + gap.size ≡ region_end region) ⊎ Any (λ (block : ℕ × (ℕ × ℕ)). block.0 ≡ gap.address + gap.size) (blocks_in region blocks)

-- Blocks and gaps tile a region: each unit of 8 bytes lies in exactly one of them, their sizes add up to the region's,
-- and gaps are maximal and touch no other.
pub record IsTiled (region : Region) (blocks : Blocks) : Type 0 where
  pub once : (unit : ℕ) → unit % 8 ≡ 0 → region.base ≤ unit → unit < region_end region → count_by (holds_unit unit) (pieces region blocks) ≡ 1
  pub sizes : sum_by (λ (piece : Gap). piece.size) (pieces region blocks) ≡ region.size
  pub maximal : All (IsMaximal region blocks) (gaps region blocks)
  pub apart : AllPairs (λ (gap next : Gap). gap.address + gap.size < next.address) (gaps region blocks)

-- a block lies whole in a region
abbrev pub LiesIn : ℕ × (ℕ × ℕ) → Region → Type 0
LiesIn block region = (region.base ≤ block.0) × (block.0 + block.1.0 ≤ region_end region)

-- Each block lies in a region, and no two blocks overlap.
pub record AreDisjoint (regions : List Region) (blocks : Blocks) : Type 0 where
  pub inside : All (λ (block : ℕ × (ℕ × ℕ)). Any (LiesIn block) regions) blocks
  pub apart : AllPairs (λ (block next : ℕ × (ℕ × ℕ)). block.0 + block.1.0 ≤ next.0) blocks

-- A stretch lies on whole units above the lowest page and below 2 GB, and is not empty.
pub record IsPlaced (address size : ℕ) : Type 0 where
  pub low : 4096 ≤ address
  pub high : address + size ≤ 2147483648
  pub some : 0 < size
  pub place : address % 8 ≡ 0
  pub whole : size % 8 ≡ 0
