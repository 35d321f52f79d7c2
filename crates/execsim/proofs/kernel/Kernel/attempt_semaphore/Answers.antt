-- The proof of `Kernel::attempt_semaphore`: AttemptSemaphore semaphore: as ObtainSemaphore if no wait is needed, and
-- answers 1; else nothing changes and the answer is 0.
use Rattle.execsim.proofs.Obtaining.{attempt_made, attempt_refused}
use Rattle.execsim.proofs.kernel.Kernel.attempt_semaphore.Goals as goal

pub returns-in-Ok : goal.returns-in-Ok
returns-in-Ok g c = rw (← c.self.view_is) (attempt_made _ _ _ c.in-Ok.has (rw c.number-semaphore.ensures at c.in-Ok.ensures.alert)
    (rw c.number-semaphore.ensures at c.in-Ok.ensures.answer) (rw c.number-semaphore.ensures at c.in-Ok.ensures.next)
    (rw c.attempted.ensures at c.answer.ensures))

pub returns-in-Err : goal.returns-in-Err
returns-in-Err g c = rw (← c.self.view_is) (attempt_refused _ _ _ c.in-Err.why (rw c.number-semaphore.ensures at c.in-Err.ensures.alert)
    c.in-Err.ensures.kept c.refuse.ensures)
