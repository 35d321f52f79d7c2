-- The proof of `low_digit`: the digit of the low half of a number below 256.
use Rattle.exectrace.proofs.Digits.{low_of_pair}
use Rattle.exectrace.proofs.values.low_digit.Goals as goal

pub returns : goal.returns
returns c = low_of_pair c.args.n c.requires
