-- It is the same machine.
use Rattle.std.proofs.Common.{◌≡◌}
use Rattle.closure.proofs.seeking.try_kinds.Given as goal

abbrev pub invariant-loop-kind : goal.invariant-loop-kind
invariant-loop-kind g l = g.W.Walker.machine_of l.walker ≡ g.W.Walker.machine_of l.fn.walker
