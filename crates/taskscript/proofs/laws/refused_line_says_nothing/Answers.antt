-- The proof of `refused_line_says_nothing`: a line that is refused says nothing.
use Rattle.taskscript.proofs.Readings.{nothing_is_said}
use Rattle.taskscript.proofs.laws.refused_line_says_nothing.Goals as goal

pub returns : goal.returns
returns c = nothing_is_said
