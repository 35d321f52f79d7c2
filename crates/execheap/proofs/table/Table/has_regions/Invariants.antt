-- The regions so far are those.
use Rattle.std.proofs.Common.{◌≡◌, take}
use Rattle.execheap.proofs.table.Table.has_regions.Given as goal

abbrev pub invariant-loop-k : goal.invariant-loop-k
invariant-loop-k g l = take l.k l.self.memory.regions ≡ take l.k l.regions
