-- The proof of `Kernel::switch`: the switch to another task, or to being idle, if one is due.
use Rattle.execsim.proofs.Stepping.{switches_as}
use Rattle.execsim.proofs.kernel.Kernel.switch.Goals as goal

pub returns : goal.returns
returns g c = switches_as _ c.reschedule-choice.ensures.answer c.reschedule-choice.ensures.next c.announce.ensures
