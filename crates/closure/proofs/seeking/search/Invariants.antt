-- It is the same machine.
use Rattle.std.proofs.Common.{◌≡◌}
use Rattle.closure.proofs.seeking.search.Given as goal

abbrev pub invariant-loop-state : goal.invariant-loop-state
invariant-loop-state g l = g.W.Walker.machine_of l.walker ≡ g.W.Walker.machine_of l.fn.walker
