-- The proof of `Kernel::start`: the start of the machine.
use Rattle.execsim.proofs.Stepping.{starts_as}
use Rattle.execsim.proofs.kernel.Kernel.start.Goals as goal

pub returns : goal.returns
returns g c = starts_as c.add_all.ensures c.settle.ensures
