-- The numbers so far are free.
use Rattle.std.proofs.Common.{◌≡◌, ◌≤◌, ◌++◌, None, drop, replicate}
use Rattle.execlist.proofs.pool.empty.Given as goal

abbrev pub invariant-loop-n : goal.invariant-loop-n
invariant-loop-n g l = record {
  slots : l.slots.items ≡ replicate l.n None ++ drop l.n l.initial.slots.items;
  within : l.n ≤ l.count;
}
