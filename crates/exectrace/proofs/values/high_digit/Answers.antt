-- The proof of `high_digit`: the digit of the high half of a number below 256.
use Rattle.exectrace.proofs.Digits.{high_of_pair}
use Rattle.exectrace.proofs.values.high_digit.Goals as goal

pub returns : goal.returns
returns c = high_of_pair c.args.n c.requires
