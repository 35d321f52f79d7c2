-- What holds in the loops of `FreeSpace::lowest_gap`: the chunk before the lowest gap of at least that many bytes, or 0
-- if that gap is the first.
use Rattle.std.proofs.Common.{◌-◌, ◌<◌}
use Rattle.memlist.specs.Chain.{IsPassed}
use Rattle.memlist.proofs.space.FreeSpace.lowest_gap.Given as goal

abbrev pub invariant-loop-gap : goal.invariant-loop-gap
invariant-loop-gap l = IsPassed (λ gap. gap.size < l.size) l.self.gaps l.before

abbrev pub decreases-loop-gap : goal.decreases-loop-gap
decreases-loop-gap l = 2147483648 - l.before
