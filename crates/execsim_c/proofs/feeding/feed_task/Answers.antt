-- The proof of `feed_task`: the command is at the end of the body.
use Rattle.script.specs.Commands.{command_view}
use Rattle.execsim_c.proofs.Fed.{command_fed}
use Rattle.execsim_c.proofs.feeding.feed_task.Goals as goal

pub returns-in-Ok-clause-fed : goal.returns-in-Ok-clause-fed
returns-in-Ok-clause-fed c = λ _. command_fed c.args.task (command_view c.args.command) _ _ c.requires (rw c.in-Ok.is at c.feed.ensures.fed)
