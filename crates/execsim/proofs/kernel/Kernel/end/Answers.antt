-- The proof of `Kernel::end`: a task whose commands are used up ends, as by RemTask 0.
use Rattle.execsim.proofs.Stepping.{ends_as}
use Rattle.execsim.proofs.kernel.Kernel.end.Goals as goal

pub returns : goal.returns
returns g c = ends_as _ c.leave.ensures c.tell.ensures
