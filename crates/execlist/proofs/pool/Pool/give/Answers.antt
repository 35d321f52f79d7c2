-- The number on top of the stack is free, and leaves it.
use Rattle.std.proofs.Common.{◌≤◌, length, ap, ◌∙◌, arith}
use Rattle.execlist.specs.Pool as spec
use Rattle.execlist.proofs.Pools.{popped, top_free, given, given_by, fresh_popped}
use Rattle.execlist.proofs.pool.Pool.give.Goals as goal

pub index_mut-requires : goal.index_mut-requires
index_mut-requires g c =
    let before = popped _ _ _ _ _ _ c.self.invariant.0 c.pop.ensures.items c.unwrap-n.ensures in
    omega (arith, c.self.inside.slots.ok.0, (top_free _ _ _ _ before).0)

pub invariant_of-self : goal.invariant_of-self
invariant_of-self g c =
    let before = popped _ _ _ _ _ _ c.self.invariant.0 c.pop.ensures.items c.unwrap-n.ensures in
    let inside : c.min-low.result ≤ length c.pop.new.self.items = omega (arith, c.min-low.ensures, c.len.ensures, c.pop.new.self.ok.0) in (
      rw c.pop.ensures.capacity (given _ _ _ _ before c.args.item),
      fresh_popped _ c.min-low.result _ _ _ c.pop.ensures.items (omega (arith, c.min-low.ensures)) inside c.self.invariant.1,
    )

pub returns : goal.returns
returns g c = given_by _ _ _ _ _ _ c.pop.ensures.items c.unwrap-n.ensures ∙ ap (spec.given c.args.item) c.self.view_is
