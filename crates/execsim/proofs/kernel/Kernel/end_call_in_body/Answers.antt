-- The proof of `Kernel::end_call_in_body`: the call answers nothing, and the body goes on.
use Rattle.execsim.proofs.Following.{follows_says}
use Rattle.execsim.proofs.kernel.Kernel.end_call_in_body.Goals as goal

pub returns : goal.returns
returns g c = follows_says _ c.say_in_body.ensures
