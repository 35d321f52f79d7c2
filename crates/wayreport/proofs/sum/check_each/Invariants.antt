-- Those so far are.
use Rattle.std.proofs.Common.{ℕ, ◌<◌, get_or}
use Rattle.wayreport.specs.{Sums.IsPartOf, declared.report.Report.Report}
use Rattle.wayreport.proofs.sum.check_each.Given as goal

abbrev pub invariant-loop-i : goal.invariant-loop-i
invariant-loop-i l = (k : ℕ) (d : Report) → k < l.i → IsPartOf l.whole l.parts (get_or l.reports k d)
