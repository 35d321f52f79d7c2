-- Memory as its regions and its blocks: the value that a `MemList` is seen as.
use Rattle.std.specs.Prelude.{◌≡◌, ℕ, ◌+◌, ◌%◌, ◌<◌, ◌≤◌, Bool, false, ◌&&◌, nat_eq, nat_lt, IsTrue, List, [], ◌∷◌, Option, None, Some}
use Rattle.std.specs.{List.list_all, List.list_any, Ordering.nat_cmp, FinMap.is_sorted}
use Rattle.memlist.specs.{declared.region.Region.Region, Regions.region_end, Regions.is_aligned, Regions.is_in_reach, Regions.are_apart, Blocks.Blocks, Blocks.block_at, Blocks.blocks_in, Blocks.freed, Blocks.is_in, Blocks.with_block, Fit.round}

pub record Memory : Type 0 where
  -- in the order of the machine's file
  pub regions : List Region
  -- in order of address
  pub blocks : Blocks

-- regions in which nothing is allocated
abbrev pub untouched : List Region → Memory
untouched regions = record { regions = regions; blocks = [] }

-- the memory after an allocation that gave an address, or gave none
abbrev pub allocated : ℕ → ℕ → Option ℕ → Memory → Memory
allocated size tag None memory = memory
allocated size tag (Some address) memory = record memory { blocks = with_block address (round size) tag memory.blocks }

-- the memory after the block that begins at an address was freed
abbrev pub without_block : ℕ → Memory → Memory
without_block address memory = record memory { blocks = freed address memory.blocks }

-- whether the size names a plain block: it is not 0 and rounds up to the block's size
abbrev pub names : ℕ → Option (ℕ × ℕ) → Bool
names size None = false
names size (Some block) = nat_eq block.1 0 && nat_lt 0 size && nat_eq (round size) block.0

-- whether a plain block begins at an address, and the size names it
abbrev pub can_free : ℕ → ℕ → Blocks → Bool
can_free address size blocks = names size (block_at address blocks)

-- Blocks lie between two addresses: in order, none meeting the next, none empty, each on whole units of 8 bytes.
abbrev pub IsLaid : ℕ → Blocks → ℕ → Type 0
IsLaid from [] to = from ≤ to
IsLaid from (block ∷ rest) to =
    (from ≤ block.0) × (0 < block.1.0) × (block.0 % 8 ≡ 0) × (block.1.0 % 8 ≡ 0) × IsLaid (block.0 + block.1.0) rest to

abbrev pub AreLaid : List Region → Blocks → Type 0
AreLaid [] blocks = Unit {0}
AreLaid (region ∷ rest) blocks = IsLaid region.base (blocks_in region blocks) (region_end region) × AreLaid rest blocks

-- What every `MemList` keeps true of its regions and blocks.
pub record IsWellFormed (regions : List Region) (blocks : Blocks) : Type 0 where
  -- regions lie on whole units below 2 GB, and no two overlap
  pub aligned : IsTrue (list_all is_aligned regions)
  pub in_reach : IsTrue (list_all is_in_reach regions)
  pub apart : IsTrue (are_apart regions)
  -- blocks are in order of address, each begins in some region, and lies there beside the others
  pub in_order : IsTrue (is_sorted nat_cmp blocks)
  pub at_home : IsTrue (list_all (λ (block : ℕ × (ℕ × ℕ)). list_any (λ region. is_in region block.0) regions) blocks)
  pub laid : AreLaid regions blocks
