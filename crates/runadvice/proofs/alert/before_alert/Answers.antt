-- The line of the alert, piece by piece.
use Rattle.runadvice.proofs.Alerts.{line_ends}
use Rattle.runadvice.proofs.alert.before_alert.Goals as goal

pub returns : goal.returns
returns c = line_ends _ c.args.code.now c.args.name.now c.args.word.now _ c.in_ok-unended.ensures c.in_ok-unworded.ensures c.in_ok-second.ensures
    c.in_ok-unnamed.ensures c.in_ok-first.ensures c.in_ok-uncoded.ensures c.before-5.ensures
