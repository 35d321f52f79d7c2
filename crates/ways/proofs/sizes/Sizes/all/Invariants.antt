-- The ways with at most that many extras were counted.
use Rattle.std.proofs.Common.{◌≡◌}
use Rattle.ways.specs.Ways.{count_all}
use Rattle.ways.proofs.sizes.Sizes.all.Given as goal

abbrev pub invariant-loop-fewer : goal.invariant-loop-fewer
invariant-loop-fewer l = l.ways ≡ count_all l.self.kinds l.fewer l.actions
