-- The proof of `one_command`: a line has at most one command.
use Rattle.taskscript.specs.OneCommand.{one_command}
use Rattle.taskscript.proofs.laws.one_command.Goals as goal

pub returns : goal.returns
returns c = one_command
