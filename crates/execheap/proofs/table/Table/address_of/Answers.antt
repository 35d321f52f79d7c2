-- The pool of the kind holds the address.
use Rattle.std.proofs.Common.{ℕ, ap, ◌∙◌}
use Rattle.execlist.specs.Pool.{Pooled, slot}
use Rattle.execheap.specs.Table.{slots_of}
use Rattle.execheap.proofs.Keeping.{pool_is}
use Rattle.execheap.proofs.table.Table.address_of.Goals as goal

pub returns : goal.returns
returns g c =
    c.get.ensures ∙ ap (λ (p : Pooled ℕ). slot p.slots c.args.number) (pool_is c.self.invariant c.args.kind c.code.result c.code.ensures _)
    ∙ ap (λ t. slot (slots_of c.args.kind t) c.args.number) c.self.view_is
