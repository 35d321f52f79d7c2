-- Those of the reports so far.
use Rattle.std.proofs.Common.{◌≡◌, take, sum_by}
use Rattle.wayreport.specs.declared.report.Report.{Report}
use Rattle.wayreport.proofs.sum.alerts_of.Given as goal

abbrev pub invariant-loop-report : goal.invariant-loop-report
invariant-loop-report l = l.alerts ≡ sum_by (λ (r : Report). r.alerts) (take l.report-index l.reports)
