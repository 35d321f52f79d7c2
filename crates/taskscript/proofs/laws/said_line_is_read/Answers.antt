-- The proof of `said_line_is_read`: what a line says is read from it.
use Rattle.taskscript.proofs.Readings.{what_is_said}
use Rattle.taskscript.proofs.laws.said_line_is_read.Goals as goal

pub returns : goal.returns
returns c = what_is_said
