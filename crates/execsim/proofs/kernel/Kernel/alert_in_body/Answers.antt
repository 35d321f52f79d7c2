-- The proof of `Kernel::alert_in_body`: the call is refused: it changes nothing, and the machine stops for good.
use Rattle.std.proofs.Common.{true, refl}
use Rattle.execsim.proofs.Following.{follows_saying, moves_stopped}
use Rattle.execsim.proofs.kernel.Kernel.alert_in_body.Goals as goal

pub returns : goal.returns
returns g c = follows_saying _ (λ s e. refl) c.hear.ensures (moves_stopped true c.stop.ensures)
