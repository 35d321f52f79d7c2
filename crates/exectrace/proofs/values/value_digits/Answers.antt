-- The proof of `value_digits`: `$` and eight digits.
use Rattle.exectrace.proofs.Digits.{value_of_pairs}
use Rattle.exectrace.proofs.values.value_digits.Goals as goal

pub returns : goal.returns
returns c = value_of_pairs c.args.n _ _ _ _ _ _ _ _ c.ranges.n.fits c.high_digit.ensures c.low_digit.ensures c.high_digit-2.ensures c.low_digit-2.ensures
    c.high_digit-3.ensures c.low_digit-3.ensures c.high_digit-4.ensures c.low_digit-4.ensures
