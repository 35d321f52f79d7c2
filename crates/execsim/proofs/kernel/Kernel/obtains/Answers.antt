-- The proof of `Kernel::obtains`: a call by which task t asks for a semaphore: it is done if the task has it, else the
-- task waits; or it is refused by its alert.
use Rattle.execsim.proofs.Obtaining.{waits}
use Rattle.execsim.proofs.kernel.Kernel.obtains.Goals as goal

pub returns-in-Waits : goal.returns-in-Waits
returns-in-Waits g c = rw (c.in-Ok.is, c.in-Waits.is) (waits _ _ _ c.wait_at_semaphore.ensures c.waiting.ensures)
