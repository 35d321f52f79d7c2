-- What is before the end of a text.
use Rattle.runadvice.proofs.Alerts.{stripped}
use Rattle.runadvice.proofs.alert.before.Goals as goal

pub returns : goal.returns
returns c = stripped c.args.text.now c.args.end.now _ c.strip_suffix.ensures.cases
