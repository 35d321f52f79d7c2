-- The pools are all that were made, and each is as large as they all are.
use Rattle.std.proofs.Common.{ap, ◌∙◌}
use Rattle.execheap.specs.Table.{Tabled, unused}
use Rattle.execheap.proofs.Unused.{pools_emptied, sound_unused}
use Rattle.execheap.proofs.table.Table.reset.Goals as goal

pub invariant_of-self : goal.invariant_of-self
invariant_of-self g c =
    let pools = c.reset_pools.ensures ∙ pools_emptied c.self.inside.pools c.self.inside.pool c.self.invariant.kinds c.self.invariant.each in
    rw (c.reset.ensures, pools, c.reset-2.ensures) (sound_unused c.self.inside.memory.regions c.self.inside.pool c.self.inside.libs.known c.args.asks c.self.invariant.small)

pub returns : goal.returns
returns g c =
    let pools = c.reset_pools.ensures ∙ pools_emptied c.self.inside.pools c.self.inside.pool c.self.invariant.kinds c.self.invariant.each in
    (λ i. record { memory = c.reset.ensures i; pools = pools i; pool = c.self.inside.pool; libs = c.reset-2.ensures i })
    ∙ ap (λ (t : Tabled). unused t.memory.regions t.pool t.libs.known c.args.asks) c.self.view_is
