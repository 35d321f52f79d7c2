-- The proof of `Kernel::delete_io_request`: DeleteIORequest request: frees a request; 0 does nothing.
use Rattle.execsim.proofs.Requesting.{delete_none, delete_tried}
use Rattle.execsim.proofs.kernel.Kernel.delete_io_request.Goals as goal

pub returns-then-request-eq0 : goal.returns-then-request-eq0
returns-then-request-eq0 g c = delete_none _ _ (rw c.number-request.ensures at c.if-request-eq0.true) c.end_call.ensures

pub returns-else-request-eq0 : goal.returns-else-request-eq0
returns-else-request-eq0 g c = rw (← c.self.view_is) (delete_tried _ _ _ _ (rw c.number-request.ensures at c.if-request-eq0.false)
    (rw c.number-request.ensures at c.delete_request-tried.ensures.alert)
    (rw c.number-request.ensures at c.delete_request-tried.ensures.next) c.delete_request-tried.ensures.kept c.conclude.ensures)
