-- What holds in the loop of `empty`: the slots so far are empty.
use Rattle.std.proofs.Common.{◌≡◌, ◌≤◌, ◌++◌, drop, replicate}
use Rattle.memlist.specs.Areas.{empty_slot}
use Rattle.memlist.proofs.header.empty.Given as goal

abbrev pub invariant-loop-place : goal.invariant-loop-place
invariant-loop-place l = record {
  slots : l.slots.items ≡ replicate l.place empty_slot ++ drop l.place l.initial.slots.items;
  within : l.place ≤ l.count;
}
