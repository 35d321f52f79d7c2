-- The parts so far were added.
use Rattle.std.proofs.Common.{◌≡◌}
use Rattle.wayreport.specs.Sums.{summed}
use Rattle.wayreport.proofs.sum.merge_parts.Given as goal

abbrev pub invariant-loop-before : goal.invariant-loop-before
invariant-loop-before l = l.total ≡ summed l.reports l.before
