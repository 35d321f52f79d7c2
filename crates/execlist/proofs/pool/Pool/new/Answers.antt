-- Every number is in the stack of free ones.
use Rattle.std.proofs.Common.{◌≡◌, None, replicate, refl, ap, ◌∙◌, length, arith, rules, IfOk, vec_items}
use Rattle.std.specs.List.{range_with_len}
use Rattle.std.proofs.lemmas.{Iterator.items_from_collect, Iterator.YieldsList-from_range, List.FromFn.length-range_with_len}
use Rattle.execlist.proofs.Pools.{new_pool, pooled, fresh_new}
use Rattle.execlist.proofs.pool.Pool.new.Goals as goal

pub invariant_of-result : goal.invariant_of-result
invariant_of-result g c =
    let none : c.in_ok-slots.slots.items ≡ replicate c.args.count None = search rules in
    let all : IfOk c.collect.result (λ v. vec_items v ≡ range_with_len 0 c.args.count) =
    items_from_collect _ c.collect.ensures.ran (YieldsList-from_range 0 c.args.count c.args.count refl (omega arith)) in
    let each : c.in_ok-free.free.items ≡ range_with_len 0 c.args.count = rw c.in_ok-free.was at all in
    rw (none, each) (new_pool _ c.args.count _ (omega (arith, c.in_ok-free.free.ok.0, ap length each, length-range_with_len 0 c.args.count)), fresh_new c.args.count)

pub returns : goal.returns
returns g c =
    let none : c.in_ok-slots.slots.items ≡ replicate c.args.count None = search rules in
    let all : IfOk c.collect.result (λ v. vec_items v ≡ range_with_len 0 c.args.count) =
    items_from_collect _ c.collect.ensures.ran (YieldsList-from_range 0 c.args.count c.args.count refl (omega arith)) in
    let each : c.in_ok-free.free.items ≡ range_with_len 0 c.args.count = rw c.in_ok-free.was at all in
    ap (λ xs. pooled xs c.in_ok-free.free.items) none ∙ ap (pooled (replicate c.args.count None)) each
