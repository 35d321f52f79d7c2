-- As many numbers hold an item as before, and the same ones.
use Rattle.std.proofs.Common.{ap, IsSome}
use Rattle.execlist.specs.Pool.{slot}
use Rattle.execlist.proofs.Pools.{item_of, written}
use Rattle.execlist.proofs.pool.Pool.set.Goals as goal

pub invariant_of-self : goal.invariant_of-self
invariant_of-self g c =
    let was : IsSome (slot c.self.inside.slots.items c.args.n) = rw (ap (λ p. p.slots) c.self.view_is) c.requires in
    (written _ _ _ _ _ c.self.invariant.0 (item_of _ was).1 c.args.other, c.self.invariant.1)
