-- The proof of `Kernel::wait_for_message`: the call waits for signals of the mask that come from now on.
use Rattle.execsim.specs.Views.{call_view}
use Rattle.execsim.proofs.Porting.{waits_cleared}
use Rattle.execsim.proofs.kernel.Kernel.wait_for_message.Goals as goal

pub returns : goal.returns
returns g c = waits_cleared _ (call_view c.args.call.now) _ c.clear_and_wait.ensures (rw c.awaiting.ensures at c.waiting.ensures)
