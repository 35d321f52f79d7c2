-- The proof of `read_line_is_said`: what is read from a line is what it says.
use Rattle.taskscript.proofs.Readings.{is_said}
use Rattle.taskscript.proofs.laws.read_line_is_said.Goals as goal

pub returns : goal.returns
returns c = is_said
