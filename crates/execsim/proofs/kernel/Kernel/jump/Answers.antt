-- The proof of `Kernel::jump`: jump l: goes on at l.
use Rattle.execsim.proofs.Calculating.{follows_jump}
use Rattle.execsim.proofs.kernel.Kernel.jump.Goals as goal

pub returns : goal.returns
returns g c = follows_jump _ _ _ c.number.ensures (c.jump_to.ensures)
