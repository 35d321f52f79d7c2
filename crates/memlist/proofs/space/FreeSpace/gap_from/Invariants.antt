-- What holds in the loop of `FreeSpace::gap_from`: the gaps up to a chunk begin below the address.
use Rattle.std.proofs.Common.{◌-◌, ◌<◌}
use Rattle.memlist.specs.Chain.{IsPassed}
use Rattle.memlist.proofs.space.FreeSpace.gap_from.Given as goal

abbrev pub invariant-loop-gap : goal.invariant-loop-gap
invariant-loop-gap l = IsPassed (λ gap. gap.address < l.address) l.self.gaps l.before

abbrev pub decreases-loop-gap : goal.decreases-loop-gap
decreases-loop-gap l = 2147483648 - l.before
