-- The proof of `Kernel::sub_words`: sub a b: answers the difference.
use Rattle.std.proofs.Common.{refl}
use Rattle.execsim.proofs.Calculating.{follows_sub}
use Rattle.execsim.proofs.kernel.Kernel.sub_words.Goals as goal

pub returns : goal.returns
returns g c = follows_sub _ _ _ (rw (c.difference.ensures, c.number.ensures, c.number-2.ensures) refl) c.end_silently_by.ensures
