-- The proof of `FreeSpace::total`: the bytes of all gaps.
use Rattle.std.proofs.Common.{◌∙◌, ap, sum_by}
use Rattle.memlist.specs.{declared.gap.Gap.Gap, Chain.Space}
use Rattle.memlist.proofs.space.FreeSpace.total.Goals as goal

pub returns : goal.returns
returns c = c.self.invariant.1 ∙ ap (λ (s : Space). sum_by (λ (gap : Gap). gap.size) s.gaps) c.self.view_is
