-- The proof of `Kernel::open_device`: OpenDevice name unit request: opens a request for a unit of timer.device, and
-- answers 0; or the word of IOERR_OPENFAIL (-1) if there is no such device or unit, and the request is then not open.
use Rattle.execsim.proofs.Requesting.{open_tried}
use Rattle.execsim.proofs.kernel.Kernel.open_device.Goals as goal

pub returns : goal.returns
returns g c = open_tried _ _ _ _ (rw (c.name_or_empty.ensures, c.name.ensures, c.number.ensures) at c.timer_unit-unit.ensures)
    (rw c.number-2.ensures at c.open_request-tried.ensures.alert) c.open_request-tried.ensures.answer
    (rw c.number-2.ensures at c.open_request-tried.ensures.next) c.open_request-tried.ensures.kept c.conclude_with.ensures
