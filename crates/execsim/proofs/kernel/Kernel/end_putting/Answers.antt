-- The proof of `Kernel::end_putting`: a call that puts a message, of a task or of a body: what is to be done for it is
-- done, or the call is refused by its alert.
use Rattle.execsim.proofs.Porting.{performed_done}
use Rattle.execsim.proofs.kernel.Kernel.end_putting.Goals as goal

pub returns-in-Ok : goal.returns-in-Ok
returns-in-Ok g c = rw c.in-Ok.is (performed_done _ _ _ c.perform.ensures c.end_call_by.ensures)
