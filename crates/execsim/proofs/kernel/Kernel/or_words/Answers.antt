-- The proof of `Kernel::or_words`: or a b: answers the bits that either has.
use Rattle.std.proofs.Common.{refl}
use Rattle.execsim.proofs.Calculating.{follows_or}
use Rattle.execsim.proofs.kernel.Kernel.or_words.Goals as goal

pub returns : goal.returns
returns g c = follows_or _ _ _ (rw (c.all_bits.ensures, c.number.ensures, c.number-2.ensures) refl) c.end_silently_by.ensures
