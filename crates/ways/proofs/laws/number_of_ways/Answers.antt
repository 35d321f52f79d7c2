-- The proof of `number_of_ways`: how many ways have exactly that many extras.
use Rattle.std.proofs.Common.{◌∙◌, length}
use Rattle.ways.proofs.Counting.{length-exactly, count-formula}
use Rattle.ways.proofs.laws.number_of_ways.Goals as goal

pub returns : goal.returns
returns c = λ kinds acts j. length-exactly kinds j acts ∙ count-formula (length kinds) j (length acts)
