-- The proof of `sum_of_parts`: the table of two parts, one after the other, is their two tables merged.
use Rattle.ways.proofs.Merging as merging
use Rattle.ways.proofs.laws.sum_of_parts.Goals as goal

pub returns : goal.returns
returns c = λ seen xs ys. merging.sum_of_parts seen xs ys
