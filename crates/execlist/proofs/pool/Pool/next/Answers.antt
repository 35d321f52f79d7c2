-- The number on top of the stack.
use Rattle.std.proofs.Common.{◌≡◌, sym, ap, ◌∙◌}
use Rattle.execlist.specs.Lists.{last}
use Rattle.execlist.proofs.Pools.{last_read, next_known, next_vacant}
use Rattle.execlist.proofs.pool.Pool.next.Goals as goal

pub returns-clause-value : goal.returns-clause-value
returns-clause-value g c =
    let top : c.copied.result ≡ last c.self.inside.free.items =
    c.copied.ensures ∙ c.last.ensures.value ∙ last_read c.deref.result.now ∙ ap last c.deref.ensures.value in
    top ∙ ap (λ p. last p.free) c.self.view_is

pub returns-clause-free : goal.returns-clause-free
returns-clause-free g c =
    let top : c.copied.result ≡ last c.self.inside.free.items =
    c.copied.ensures ∙ c.last.ensures.value ∙ last_read c.deref.result.now ∙ ap last c.deref.ensures.value in
    rw (sym c.self.view_is) (next_vacant _ _ _ c.self.invariant.0 _ top)

pub returns-clause-known : goal.returns-clause-known
returns-clause-known g c =
    let top : c.copied.result ≡ last c.self.inside.free.items =
    c.copied.ensures ∙ c.last.ensures.value ∙ last_read c.deref.result.now ∙ ap last c.deref.ensures.value in
    rw (sym c.self.view_is) (next_known _ _ _ c.self.invariant.0 _ top)
