-- The proof of `Kernel::answer`: the call answers, into its target if it has one, and task t goes on.
use Rattle.execsim.proofs.Endings.{follows_answered}
use Rattle.execsim.proofs.kernel.Kernel.answer.Goals as goal

pub returns : goal.returns
returns g c = follows_answered _ _ _ c.store.ensures c.go_on.ensures c.say.ensures
