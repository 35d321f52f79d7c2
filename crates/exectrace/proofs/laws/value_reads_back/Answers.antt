-- The proof of `value_reads_back`: the digits after the `$` of a printed value write that value to the base 16, so no
-- two values print alike.
use Rattle.exectrace.proofs.Digits.{digits_value-value_text}
use Rattle.exectrace.proofs.laws.value_reads_back.Goals as goal

pub returns : goal.returns
returns c = digits_value-value_text c.args.value c.ranges.value.fits
