-- The proof of `Kernel::io_secs`: IOSecs request: answers the seconds of its time.
use Rattle.execmodel.specs.Requests.{does_io_secs, request_alert, request_of}
use Rattle.execsim.proofs.Listing.{heap_read}
use Rattle.execsim.proofs.kernel.Kernel.io_secs.Goals as goal

pub returns : goal.returns
unfolding does_io_secs
returns g c = rw (← c.self.view_is) (heap_read _ _ (request_alert _) (λ heap. (request_of _ heap).secs) _
    (rw c.number.ensures at c.secs-tried.ensures.alert) (rw c.number.ensures at c.secs-tried.ensures.answer) (rw (← c.self.view_is) at c.conclude_with.ensures))
