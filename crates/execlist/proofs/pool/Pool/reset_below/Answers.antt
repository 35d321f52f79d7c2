-- The numbers that may have been given are free again.
use Rattle.std.proofs.Common.{◌≡◌, ◌≤◌, length, sym, ap, subst, ◌∙◌, arith}
use Rattle.std.specs.List.{range_with_len}
use Rattle.std.proofs.lemmas.List.FromFn.{length-range_with_len}
use Rattle.execlist.specs.Pool.{Pooled}
use Rattle.execlist.proofs.Pools.{IsTakenFrom, low_empty, fresh_lower, fresh_new, reset_pool}
use Rattle.execlist.proofs.pool.Pool.reset_below.Goals as goal

pub empty-requires-clause-free : goal.empty-requires-clause-free
empty-requires-clause-free g c =
    low_empty _ _ _ c.self.invariant.0 _ c.self.invariant.1 c.min-low.result (omega (arith, c.min-low.ensures))

pub refill-requires-clause-rising : goal.refill-requires-clause-rising
refill-requires-clause-rising g c =
    let least : c.min-low.result ≤ c.self.inside.low = omega (arith, c.min-low.ensures) in
    let numbers : c.truncate.new.self.items ≡ range_with_len 0 c.min-low.result =
    c.truncate.ensures.items ∙ (fresh_lower _ _ _ least c.self.invariant.1).rising in
    numbers ∙ ap (range_with_len 0) (sym (ap length numbers ∙ length-range_with_len 0 c.min-low.result))

pub invariant_of-self : goal.invariant_of-self
invariant_of-self g c =
    let known = subst (λ (p : Pooled g.row.T.Denot). c.args.count ≤ length p.slots) (sym c.self.view_is) c.requires.known in
    let held = subst (λ (p : Pooled g.row.T.Denot). IsTakenFrom c.args.count p.slots) (sym c.self.view_is) c.requires.held in
    rw (c.empty.ensures, c.refill.ensures.numbers)
    (reset_pool c.self.inside.slots.items c.args.count _ _ known held c.self.invariant.0.room (omega (arith, c.truncate.ensures.capacity, c.refill.ensures.capacity)), fresh_new c.args.count)
