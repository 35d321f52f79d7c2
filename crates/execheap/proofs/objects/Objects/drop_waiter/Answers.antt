-- The same semaphores live, and there is room for as many tasks.
use Rattle.std.proofs.Common.{sym, subst}
use Rattle.execheap.proofs.KeptSemaphores.{IsAlike, kept_dropped, kept_sems}
use Rattle.execheap.proofs.objects.Objects.drop_waiter.Goals as goal

pub invariant_of-self : goal.invariant_of-self
invariant_of-self g c =
    kept_sems c.self.invariant _ (subst (IsAlike c.self.inside.sems) (sym c.drop_waiter.ensures) (kept_dropped c.args.t c.self.inside.sems))
