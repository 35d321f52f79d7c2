-- The proof of `Kernel::and_words`: and a b: answers the bits that both have.
use Rattle.std.proofs.Common.{refl}
use Rattle.execsim.proofs.Calculating.{follows_and}
use Rattle.execsim.proofs.kernel.Kernel.and_words.Goals as goal

pub returns : goal.returns
returns g c = follows_and _ _ _ (rw (c.common_bits.ensures, c.number.ensures, c.number-2.ensures) refl) c.end_silently_by.ensures
