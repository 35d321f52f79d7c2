-- The proof of `feed_line`: the command that the line says is fed.
use Rattle.script.specs.Commands.{command_view}
use Rattle.execsim_c.proofs.feeding.feed_line.Goals as goal

pub returns-in-Ok-clause-fed : goal.returns-in-Ok-clause-fed
returns-in-Ok-clause-fed c = λ is. record { command = command_view c.in-Ok.command; says = c.in-Ok.ensures; feeds = c.feed_command.ensures.fed is }
