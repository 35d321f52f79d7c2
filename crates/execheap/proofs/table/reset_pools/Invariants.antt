-- The pools so far are free, and the others are as they were.
use Rattle.std.proofs.Common.{◌≡◌, drop, map, take}
use Rattle.execheap.specs.Table.{emptied}
use Rattle.execheap.proofs.table.reset_pools.Given as goal

abbrev pub invariant-loop-kind : goal.invariant-loop-kind
invariant-loop-kind l = record {
  freed : take l.kind l.pools ≡ map emptied (take l.kind l.initial.pools);
  kept : drop l.kind l.pools ≡ drop l.kind l.initial.pools;
}
