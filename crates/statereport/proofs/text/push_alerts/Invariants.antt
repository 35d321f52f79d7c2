-- What is left is still to be added.
use Rattle.std.proofs.Common.{◌≡◌, ◌++◌, drop, flat_map}
use Rattle.statereport.specs.Reports.{alert_text}
use Rattle.statereport.proofs.text.push_alerts.Given as goal

abbrev pub invariant-loop-alert : goal.invariant-loop-alert
invariant-loop-alert l = l.out.items ++ flat_map alert_text (drop l.alert-index l.alerts) ≡ l.fn.out.items ++ flat_map alert_text l.alerts
