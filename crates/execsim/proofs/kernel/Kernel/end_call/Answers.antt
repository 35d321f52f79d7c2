-- The proof of `Kernel::end_call`: the call answers nothing, and task t goes on.
use Rattle.execsim.proofs.Endings.{follows_done}
use Rattle.execsim.proofs.kernel.Kernel.end_call.Goals as goal

pub returns : goal.returns
returns g c = follows_done _ _ c.go_on.ensures c.say.ensures
