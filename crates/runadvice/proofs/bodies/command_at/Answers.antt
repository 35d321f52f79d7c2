-- The command is the one at its place of the code.
use Rattle.runadvice.proofs.Alerts.{command_found}
use Rattle.runadvice.proofs.bodies.command_at.Goals as goal

pub returns : goal.returns
returns c = command_found c.in_ok-code.code.now c.args.spot.place _ _ c.in_ok-code.ensures c.at_place.ensures
