-- What is known of the number on top of the stack.
use Rattle.std.proofs.Common.{subst}
use Rattle.execlist.specs.Pool.{IsStocked}
use Rattle.execlist.proofs.Pools.{stocked}
use Rattle.execlist.proofs.pool.Pool.facts.Goals as goal

pub returns : goal.returns
returns g c = subst IsStocked c.self.view_is (stocked _ _ _ c.self.invariant.0)
