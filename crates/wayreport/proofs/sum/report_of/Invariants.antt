-- None of the reports so far is of that part.
use Rattle.std.proofs.Common.{◌≡◌, drop}
use Rattle.wayreport.specs.Sums.{outcomes_in}
use Rattle.wayreport.proofs.sum.report_of.Given as goal

abbrev pub invariant-loop-i : goal.invariant-loop-i
invariant-loop-i l = outcomes_in l.reports l.number ≡ outcomes_in (drop l.i l.reports) l.number
