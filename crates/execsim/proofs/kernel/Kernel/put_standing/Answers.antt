-- The proof of `Kernel::put_standing`: puts who runs, and the line of the call of each task that waits.
use Rattle.std.proofs.Common.{refl}
use Rattle.exectrace.specs.Putting.{puts_then}
use Rattle.execsim.proofs.kernel.Kernel.put_standing.Goals as goal

pub returns : goal.returns
returns g c = puts_then _ c.put_runner.ensures c.put_waits.ensures refl
