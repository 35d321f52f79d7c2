-- The proof of `Kernel::add_words`: add a b: answers the sum.
use Rattle.std.proofs.Common.{refl}
use Rattle.execsim.proofs.Calculating.{follows_add}
use Rattle.execsim.proofs.kernel.Kernel.add_words.Goals as goal

pub returns : goal.returns
returns g c = follows_add _ _ _ (rw (c.sum.ensures, c.number.ensures, c.number-2.ensures) refl) c.end_silently_by.ensures
