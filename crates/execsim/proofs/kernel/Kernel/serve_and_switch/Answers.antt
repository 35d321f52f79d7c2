-- The proof of `Kernel::serve_and_switch`.
use Rattle.execsim.proofs.Following.{follows_then}
use Rattle.execsim.proofs.kernel.Kernel.serve_and_switch.Goals as goal

pub returns : goal.returns
returns g c = follows_then c.interrupt.ensures c.switch_unless_stopped.ensures
