-- The proof of `Kernel::set`: set a: answers a.
use Rattle.execsim.proofs.Calculating.{follows_set}
use Rattle.execsim.proofs.kernel.Kernel.set.Goals as goal

pub returns : goal.returns
returns g c = follows_set _ _ _ c.number.ensures c.end_silently_by.ensures
