-- What holds in the loops of `FreeSpace::largest`: the size of the greatest gap, or 0 if there is none.
use Rattle.std.proofs.Common.{◌-◌, List, map}
use Rattle.memlist.specs.{declared.gap.Gap.Gap, Fit.greatest}
use Rattle.memlist.proofs.Walking.{IsCounted}
use Rattle.memlist.proofs.space.FreeSpace.largest.Given as goal

abbrev pub invariant-loop-gap : goal.invariant-loop-gap
invariant-loop-gap l = IsCounted (λ (gaps : List Gap). greatest (map (λ (gap : Gap). gap.size) gaps)) l.self.gaps l.before l.largest

abbrev pub decreases-loop-gap : goal.decreases-loop-gap
decreases-loop-gap l = 2147483648 - l.before
