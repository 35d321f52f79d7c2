-- The proof of `Kernel::create_io_request`: CreateIORequest port: answers the address of a new request with that reply
-- port, or 0; 0 for port 0.
use Rattle.execsim.proofs.Requesting.{create_made, create_none, create_refused}
use Rattle.execsim.proofs.kernel.Kernel.create_io_request.Goals as goal

pub returns-then-port-eq0 : goal.returns-then-port-eq0
returns-then-port-eq0 g c = create_none _ _ (rw c.number-port.ensures at c.if-port-eq0.true) c.answer.ensures

pub returns-in-Ok : goal.returns-in-Ok
returns-in-Ok g c = rw (← c.self.view_is) (create_made _ _ _ c.in-Ok.request (rw c.number-port.ensures at c.if-port-eq0.false)
    (rw c.number-port.ensures at c.in-Ok.ensures.alert) c.in-Ok.ensures.address (rw c.number-port.ensures at c.in-Ok.ensures.next)
    (rw c.unwrap_or.ensures at c.answer-in-Ok.ensures))

pub returns-in-Err : goal.returns-in-Err
returns-in-Err g c = rw (← c.self.view_is) (create_refused _ _ _ c.in-Err.why (rw c.number-port.ensures at c.if-port-eq0.false)
    (rw c.number-port.ensures at c.in-Err.ensures.alert) c.in-Err.ensures.kept c.refuse.ensures)
