-- The proof of `one_reading`: any two functions that the relation determines answer the same of all fields.
use Rattle.taskscript.proofs.Readings.{meanings_agree}
use Rattle.taskscript.proofs.laws.one_reading.Goals as goal

pub returns : goal.returns
returns c = meanings_agree
