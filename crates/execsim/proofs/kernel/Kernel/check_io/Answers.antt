-- The proof of `Kernel::check_io`: CheckIO request: answers 0 for a request that is in progress, and else the request,
-- and leaves its reply where it is.
use Rattle.std.specs.Prelude.{if◌then◌else◌}
use Rattle.iorequest.specs.Request.{is_under_way}
use Rattle.execmodel.specs.Requests.{does_check_io, request_alert, request_of}
use Rattle.execsim.proofs.Listing.{heap_read}
use Rattle.execsim.proofs.kernel.Kernel.check_io.Goals as goal

pub returns : goal.returns
unfolding does_check_io
returns g c = heap_read _ _ (request_alert _) (λ heap. if is_under_way (request_of _ heap) then 0 else _) _
    (rw c.number-request.ensures at c.check-tried.ensures.alert) (rw c.number-request.ensures at c.check-tried.ensures.answer)
    c.conclude_with.ensures
