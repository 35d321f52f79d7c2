-- The proof of `Kernel::io_error`: IOError request: answers its error as a word: 0, or that of IOERR_OPENFAIL (-1),
-- IOERR_ABORTED (-2) or IOERR_NOCMD (-3).
use Rattle.std.specs.Int.{cast_unsigned, w32}
use Rattle.execmodel.specs.Requests.{does_io_error, request_alert, request_of}
use Rattle.execsim.proofs.Listing.{heap_read}
use Rattle.execsim.proofs.kernel.Kernel.io_error.Goals as goal

pub returns : goal.returns
unfolding does_io_error
returns g c = heap_read _ _ (request_alert _) (λ heap. cast_unsigned w32 (request_of _ heap).error) _
    (rw c.number.ensures at c.error-tried.ensures.alert) (rw c.number.ensures at c.error-tried.ensures.answer) c.conclude_with.ensures
