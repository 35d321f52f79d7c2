-- The proof of `Kernel::io_micros`: IOMicros request: answers the microseconds of its time.
use Rattle.execmodel.specs.Requests.{does_io_micros, request_alert, request_of}
use Rattle.execsim.proofs.Listing.{heap_read}
use Rattle.execsim.proofs.kernel.Kernel.io_micros.Goals as goal

pub returns : goal.returns
unfolding does_io_micros
returns g c = rw (← c.self.view_is) (heap_read _ _ (request_alert _) (λ heap. (request_of _ heap).micros) _
    (rw c.number.ensures at c.micros-tried.ensures.alert) (rw c.number.ensures at c.micros-tried.ensures.answer) (rw (← c.self.view_is) at c.conclude_with.ensures))
