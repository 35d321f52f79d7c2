-- The proof of `Kernel::io_flags`: IOFlags request: answers 1 if IOF_QUICK is set, and else 0.
use Rattle.std.specs.Prelude.{if◌then◌else◌}
use Rattle.execmodel.specs.Requests.{does_io_flags, request_alert, request_of}
use Rattle.execsim.proofs.Listing.{heap_read}
use Rattle.execsim.proofs.kernel.Kernel.io_flags.Goals as goal

pub returns : goal.returns
unfolding does_io_flags
returns g c = heap_read _ _ (request_alert _) (λ heap. if (request_of _ heap).quick then 1 else 0) _
    (rw c.number.ensures at c.flags-tried.ensures.alert) (rw c.number.ensures at c.flags-tried.ensures.answer) c.conclude_with.ensures
