-- The proof of `Kernel::obtain_semaphore`: ObtainSemaphore semaphore: a free semaphore is the caller's, with the count
-- 1; the owner's count is one more; any other task waits, after those that asked before.
use Rattle.execsim.specs.Views.{call_view}
use Rattle.execsim.proofs.Obtaining.{obtain_again, obtain_tried}
use Rattle.execsim.proofs.kernel.Kernel.obtain_semaphore.Goals as goal

pub returns-then-is_tried_again : goal.returns-then-is_tried_again
returns-then-is_tried_again g c = obtain_again _ _ (rw c.is_tried_again.ensures at c.if-is_tried_again.true) c.end_call.ensures

pub returns-else-is_tried_again : goal.returns-else-is_tried_again
returns-else-is_tried_again g c = rw (← c.self.view_is) (obtain_tried _ (call_view c.args.call.now) _ _
    (rw (c.is_tried_again.ensures, ← c.self.view_is) at c.if-is_tried_again.false)
    (rw c.number-semaphore.ensures at c.obtain_semaphore-tried.ensures.alert)
    (rw c.number-semaphore.ensures at c.obtain_semaphore-tried.ensures.answer)
    (rw c.number-semaphore.ensures at c.obtain_semaphore-tried.ensures.next) c.obtain_semaphore-tried.ensures.kept
    c.obtains.ensures)
