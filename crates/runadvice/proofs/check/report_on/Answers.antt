-- The machine at the end of the run agrees with the last state, so what is found of its end holds of the run.
use Rattle.runadvice.proofs.Alerts.{result_ends_run, result_same}
use Rattle.runadvice.proofs.check.report_on.Goals as goal

pub returns-clause-alerted : goal.returns-clause-alerted
returns-clause-alerted c = result_same (λ report. report.is_alerted) c.report_at_end.result c.in_ok-run.ensures.agrees.stopped c.report_at_end.ensures.alerted

pub returns-clause-alert : goal.returns-clause-alert
returns-clause-alert c =
    result_ends_run _ _ _ _ _ (λ report. report.alert) c.report_at_end.result c.in_ok-run.ensures.agrees c.in_ok-run.ensures.tells c.report_at_end.ensures.alert
