-- The proof of `Kernel::alert`: the call of task t is refused: it changes nothing, and the machine stops for good.
use Rattle.execsim.proofs.Endings.{follows_alerted}
use Rattle.execsim.proofs.kernel.Kernel.alert.Goals as goal

pub returns : goal.returns
returns g c = follows_alerted _ _ _ c.stop.ensures (rw c.name-by.ensures at c.hear.ensures)
