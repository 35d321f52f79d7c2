-- As many nodes may live as the pool says.
use Rattle.std.proofs.Common.{◌≡◌, ◌≤◌, length, ap, sym, ◌∙◌, arith}
use Rattle.execlist.specs.Lists.{KeyData, blank}
use Rattle.execheap.specs.declared.tag.Kind.TheVariants as variant
use Rattle.execheap.specs.Numbered.{Numbered, places}
use Rattle.execheap.proofs.BlockViews.{beyond}
use Rattle.execheap.proofs.objects.Objects.node_pri.Goals as goal

pub pri-requires : goal.pri-requires
pri-requires g c =
    let pool : c.pool.result ≡ c.args.self.now.table.pool = c.pool.ensures ∙ ap (λ (s : Numbered). s.table.pool) c.self.view_is in
    omega (
      arith,
      c.if-n-pool.true,
      pool,
      c.self.invariant.each_node,
      ap (λ (s : Numbered). length (places variant.Node s)) c.self.view_is,
      c.facts.ensures.sound.table.each variant.Node,
    )

pub returns-else-n-pool : goal.returns-else-n-pool
returns-else-n-pool g c =
    let s = c.args.self.now in
    let pool : c.pool.result ≡ s.table.pool = c.pool.ensures ∙ ap (λ (x : Numbered). x.table.pool) c.self.view_is in
    let far : length s.keys ≤ c.args.n =
    omega (arith, c.if-n-pool.false, pool, c.facts.ensures.space.keyed, c.facts.ensures.sound.kept.each_node, c.facts.ensures.sound.table.each variant.Node) in
    sym (ap (λ (k : KeyData). k.pri) (beyond s.keys c.args.n blank far))
