-- A node of another header has no successor there.
use Rattle.std.proofs.Common.{cond, ap, sym, ◌∙◌}
use Rattle.execlist.specs.{Order.first, Lists.sequence, Lists.part_from, Lists.is_at}
use Rattle.execlist.proofs.Walks.{stops}
use Rattle.execlist.proofs.walk.next_node.Goals as goal

pub returns-else-eq-clause-value : goal.returns-else-eq-clause-value
returns-else-eq-clause-value g c =
    let s = c.args.space.now in
    let seq = sequence (g.S.ListSpace.sequences s) c.args.h in
    sym (ap (λ o. first (part_from o seq)) c.in-Some.is
    ∙ stops c.home.result c.args.h c.in-Some.n seq (g.met.S.ListSpace.stands s c.args.h c.in-Some.n ∙ ap (λ o. cond (is_at o c.args.h) 1 0) (sym c.home.ensures.value))
    (sym c.eq.ensures ∙ c.if-eq.false))
