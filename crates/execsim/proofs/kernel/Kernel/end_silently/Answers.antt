-- The proof of `Kernel::end_silently`: a word that is not a call of Exec answers, and prints nothing.
use Rattle.execsim.proofs.Endings.{quietly_silent}
use Rattle.execsim.proofs.kernel.Kernel.end_silently.Goals as goal

pub returns : goal.returns
returns g c = quietly_silent _ _ _ c.store.ensures c.go_on.ensures
