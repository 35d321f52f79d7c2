-- The stack has room for a number that held an item, and then holds it.
use Rattle.std.proofs.Common.{[], ◌∷◌, ◌++◌, ◌∙◌, ap, arith, IsSome, is_ok, if◌then◌else◌}
use Rattle.execlist.specs.Pool.{slot}
use Rattle.execlist.proofs.Pools.{item_of, room_for, released, fresh_pushed}
use Rattle.execlist.proofs.pool.Pool.release.Goals as goal

pub unwrap-requires : goal.unwrap-requires
unwrap-requires g c =
    let was : IsSome (slot c.self.inside.slots.items c.args.n) = rw (ap (λ p. p.slots) c.self.view_is) c.requires in
    c.push.ensures.succeeds (omega (arith, c.self.inside.free.ok.0, room_for _ _ _ _ _ c.self.invariant.0 (item_of _ was).1))

pub invariant_of-self : goal.invariant_of-self
invariant_of-self g c =
    let was : IsSome (slot c.self.inside.slots.items c.args.n) = rw (ap (λ p. p.slots) c.self.view_is) c.requires in
    let pushed = c.push.ensures.items ∙ ap (λ r. if is_ok r then c.self.inside.free.items ++ c.args.n ∷ [] else c.self.inside.free.items) c.unwrap.ensures in
    rw pushed (released _ _ _ _ _ c.self.invariant.0 (item_of _ was).1 _ c.push.ensures.capacity, fresh_pushed _ _ (c.args.n ∷ []) c.self.invariant.1)
