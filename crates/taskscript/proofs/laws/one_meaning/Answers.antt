-- The proof of `one_meaning`: a line is one label or one command, and not both.
use Rattle.taskscript.specs.Reader.{one_meaning}
use Rattle.taskscript.proofs.laws.one_meaning.Goals as goal

pub returns : goal.returns
returns c = one_meaning
