-- The names and the priorities so far are those of the tasks so far.
use Rattle.std.proofs.Common.{◌≡◌, length, map, take}
use Rattle.taskq.proofs.TaskQ.inits_with.Given as goal

abbrev pub invariant-loop-t : goal.invariant-loop-t
invariant-loop-t g l = record {
  count : length l.inits.items ≡ l.t;
  pris : map (λ t. t.pri) l.inits.items ≡ take l.t l.self.pris;
  names : map (λ t. t.name.bytes) l.inits.items ≡ take l.t l.self.names;
}
