-- The proof of `Kernel::jump_to`: task t goes on at that place.
use Rattle.execsim.proofs.Calculating.{follows_jumps}
use Rattle.execsim.proofs.kernel.Kernel.jump_to.Goals as goal

pub returns : goal.returns
returns g c = follows_jumps _ _ c.go_on.ensures
