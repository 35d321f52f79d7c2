-- The proof of `Kernel::abort_io`: AbortIO request: a request that is in progress is replied at once, with the error
-- IOERR_ABORTED (-2), and 0 is answered; for any other the word of -1.
use Rattle.execsim.proofs.Requesting.{abort_tried}
use Rattle.execsim.proofs.kernel.Kernel.abort_io.Goals as goal

pub returns : goal.returns
returns g c = rw (← c.self.view_is) (abort_tried _ _ _ _ (rw c.number-request.ensures at c.abort_request-tried.ensures.alert)
    (rw c.number-request.ensures at c.abort_request-tried.ensures.answer)
    (rw c.number-request.ensures at c.abort_request-tried.ensures.next) c.abort_request-tried.ensures.kept c.aborted.ensures)
