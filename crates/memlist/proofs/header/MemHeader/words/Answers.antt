-- The proof of `MemHeader::words`: the words of the region.
use Rattle.std.proofs.Common.{List, ap, arith, subst}
use Rattle.memlist.specs.{declared.gap.Gap.Gap, Areas.Area, Areas.area_gaps, Chain.IsLinked}
use Rattle.memlist.proofs.Headers.{gaps_shown}
use Rattle.memlist.proofs.header.MemHeader.words.Goals as goal

pub returns-clause-len : goal.returns-clause-len
returns-clause-len c =
    let size = ap (λ (a : Area). a.region.size) c.self.view_is in
    omega (arith, c.words.ensures.len, c.self.invariant.0.base, c.self.invariant.0.end, size)

pub returns-clause-linked : goal.returns-clause-linked
returns-clause-linked c =
    let shown = gaps_shown c.self.inside.region c.self.inside.slots.items c.self.inside.space _ c.self.invariant.0 c.self.view_is in
    subst (λ (a : Area). IsLinked a.region.base c.words.result.now (area_gaps a) 0) c.self.view_is
    (subst (λ (gaps : List Gap). IsLinked c.self.inside.region.base c.words.result.now gaps 0) c.self.invariant.0.free
    (subst (λ base. IsLinked base c.words.result.now c.self.inside.space.gaps 0) c.self.invariant.0.base c.words.ensures.linked))
