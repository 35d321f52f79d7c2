-- The numbers so far are in the stack.
use Rattle.std.proofs.Common.{◌≡◌, ◌≤◌, vec_capacity}
use Rattle.std.specs.List.{range_with_len}
use Rattle.execlist.proofs.pool.refill.Given as goal

abbrev pub invariant-loop-n : goal.invariant-loop-n
invariant-loop-n l = record {
  numbers : l.free.items ≡ range_with_len 0 l.n;
  capacity : vec_capacity l.initial.free ≤ vec_capacity l.free;
  within : l.n ≤ l.count;
}
