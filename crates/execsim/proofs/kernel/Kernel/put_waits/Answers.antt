-- The proof of `Kernel::put_waits`: puts the line of the call of each task that waits.
use Rattle.exectrace.specs.Putting.{puts_none}
use Rattle.execsim.proofs.Awaiting.{next_wait}
use Rattle.execsim.proofs.kernel.Kernel.put_waits.Goals as goal

pub loop-t-init : goal.loop-t-init
loop-t-init g c = puts_none _

pub loop-t-preserved : goal.loop-t-preserved
loop-t-preserved g c = next_wait c.loop-t.t _ _ c.loop-t.invariant c.put_wait.ensures
