-- The proof of `Kernel::waiting`: the call waits, and is kept, so that task t tries it again.
use Rattle.execsim.proofs.Endings.{follows_waiting}
use Rattle.execsim.proofs.kernel.Kernel.waiting.Goals as goal

pub returns : goal.returns
returns g c = follows_waiting _ _ c.keep.ensures c.say.ensures
