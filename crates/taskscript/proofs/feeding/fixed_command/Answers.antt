-- The proof of `fixed_command`: the command is the same in each body.
use Rattle.taskscript.proofs.Fed.{fixed_fits, fixed_read}
use Rattle.taskscript.proofs.feeding.fixed_command.Goals as goal

pub command_in-requires-clause-fits : goal.command_in-requires-clause-fits
command_in-requires-clause-fits c = fixed_fits _ c.requires.fixed _ _

pub command_in-requires-clause-once : goal.command_in-requires-clause-once
command_in-requires-clause-once c = c.requires.once _ _

pub returns : goal.returns
returns c = fixed_read _ _ _ _ _ c.requires.fixed c.command_in.ensures
