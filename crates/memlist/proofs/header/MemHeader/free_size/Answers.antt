-- The proof of `MemHeader::free_size`: the bytes that are free.
use Rattle.std.proofs.Common.{List, arith, ap, sum_by}
use Rattle.memlist.specs.{declared.gap.Gap.Gap, Areas.Area}
use Rattle.memlist.proofs.Headers.{free_bound, gaps_shown}
use Rattle.memlist.proofs.header.MemHeader.free_size.Goals as goal

pub returns-clause-value : goal.returns-clause-value
returns-clause-value c =
    let shown = gaps_shown c.self.inside.region c.self.inside.slots.items c.self.inside.space _ c.self.invariant.0 c.self.view_is in
    let same = ap (λ (gaps : List Gap). sum_by (λ (gap : Gap). gap.size) gaps) shown in
    omega (arith, c.total.ensures, same)

pub returns-clause-bound : goal.returns-clause-bound
returns-clause-bound c =
    let bound = free_bound c.self.inside.region c.self.inside.slots.items c.self.inside.space c.self.invariant.0 in
    let region = ap (λ (a : Area). a.region.size) c.self.view_is in
    omega (arith, bound, region, c.total.ensures)
