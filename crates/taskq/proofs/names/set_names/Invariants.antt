-- The names so far are those of the tasks so far.
use Rattle.std.proofs.Common.{◌≡◌, take, length, map}
use Rattle.taskq.proofs.names.set_names.Given as goal

abbrev pub invariant-loop-t : goal.invariant-loop-t
invariant-loop-t l = record {
  names : take l.t l.names.items ≡ take l.t (map (λ t. t.name) l.tasks);
  count : length l.names.items ≡ length l.tasks;
}
