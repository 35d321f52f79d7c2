-- Where blocks begin, and where there is room for more (RKM Libraries, Exec Memory Allocation). The gaps of a region
-- are what its blocks leave free; they are not stored.
use Rattle.std.specs.Prelude.{ℕ, not, nat_eq, map, Option, None, Some}
use Rattle.std.specs.{Ordering.nat_cmp, FinMap.find, FinMap.put, FinMap.Entries.where_key}
use Rattle.memlist.specs.{Blocks.Blocks, Fit.fit, Fit.round}
use Rattle.execmodel.specs.Blocks.{Object, Block, Heap, Memory}

-- the block that begins at an address
abbrev pub block_at : ℕ → Heap → Option Block
block_at address heap = find nat_cmp address heap

-- Where the blocks are, and how long they are. Where another block fits, and how much is free, depends on that alone.
abbrev pub extents : Heap → Blocks
extents heap = map (λ (entry : ℕ × Block). (entry.0, (entry.1.size, 0))) heap

-- the address where a block of that many bytes is placed, if there is one
abbrev pub place_for : ℕ → ℕ → Memory → Option ℕ
place_for size reqs memory = fit memory.regions (extents memory.heap) size reqs

-- an object gets a block at an address, of that many bytes rounded up; nothing changes if there is no address
abbrev pub placed : ℕ → Object → Option ℕ → Memory → Memory
placed size object None memory = memory
placed size object (Some address) memory =
    record memory { heap = put nat_cmp address (record { size = round size; object = object }) memory.heap }

-- the block that begins at an address is freed; what is free beside it joins it
abbrev pub freed : ℕ → Memory → Memory
freed address memory = record memory { heap = where_key nat_cmp (λ other. not (nat_eq other address)) memory.heap }
