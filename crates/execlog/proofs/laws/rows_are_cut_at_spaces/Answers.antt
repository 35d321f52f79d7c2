-- The proof of `rows_are_cut_at_spaces`: a row is cut at its spaces.
use Rattle.execlog.proofs.Reading as reading
use Rattle.execlog.proofs.laws.rows_are_cut_at_spaces.Goals as goal

pub returns : goal.returns
returns c = reading.rows_are_cut_at_spaces
