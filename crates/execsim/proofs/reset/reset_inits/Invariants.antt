-- the names and priorities so far are those of the tasks
use Rattle.std.proofs.Common.{◌≡◌, length, map, take}
use Rattle.execsim.proofs.reset.reset_inits.Given as goal

abbrev pub invariant-loop-t : goal.invariant-loop-t
invariant-loop-t l = record {
  names : take l.t (map (λ t. t.name.bytes) l.inits.items) ≡ take l.t (map (λ t. t.name.bytes) l.tasks);
  pris : take l.t (map (λ t. t.pri) l.inits.items) ≡ take l.t (map (λ t. t.pri) l.tasks);
  count : length l.inits.items ≡ length l.tasks;
}
