-- The proof of `Kernel::do_io`: DoIO request: begins a request with IOF_QUICK set; if that does it at once, its error
-- is answered, else the task waits for it as by WaitIO.
use Rattle.execsim.specs.Views.{call_view}
use Rattle.execsim.proofs.Requesting.{do_again, do_found, do_refused}
use Rattle.execsim.proofs.kernel.Kernel.do_io.Goals as goal

pub returns-then-is_tried_again : goal.returns-then-is_tried_again
returns-then-is_tried_again g c = do_again _ _ (rw c.is_tried_again.ensures at c.if-is_tried_again.true) c.wait_io.ensures

pub returns-in-Ok : goal.returns-in-Ok
returns-in-Ok g c = rw (← c.self.view_is) (do_found _ (call_view c.args.call.now) _ c.in-Ok.found
    (rw (c.is_tried_again.ensures, ← c.self.view_is) at c.if-is_tried_again.false)
    (rw c.number-request.ensures at c.in-Ok.ensures.alert) (rw c.number-request.ensures at c.in-Ok.ensures.answer)
    (rw c.number-request.ensures at c.in-Ok.ensures.next) c.look_for.ensures)

pub returns-in-Err : goal.returns-in-Err
returns-in-Err g c = rw (← c.self.view_is) (do_refused _ (call_view c.args.call.now) _ c.in-Err.why
    (rw (c.is_tried_again.ensures, ← c.self.view_is) at c.if-is_tried_again.false)
    (rw c.number-request.ensures at c.in-Err.ensures.alert) c.in-Err.ensures.kept c.refuse.ensures)
