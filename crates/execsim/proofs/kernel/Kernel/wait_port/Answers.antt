-- The proof of `Kernel::wait_port`: WaitPort port: answers the first message of the port, and leaves it there; if there
-- is none, the task waits for the port's signal, and looks again when it next runs, after that signal is cleared.
use Rattle.execsim.specs.Views.{call_view}
use Rattle.execsim.proofs.Porting.{wait_looked, wait_refused}
use Rattle.execsim.proofs.kernel.Kernel.wait_port.Goals as goal

pub returns-in-Ok : goal.returns-in-Ok
returns-in-Ok g c = rw (← c.self.view_is) (wait_looked _ (call_view c.args.call.now) c.in-Ok.message c.in-Ok.bit
    (rw c.number-port.ensures at c.in-Ok.ensures.alert)
    (rw c.number-port.ensures at c.in-Ok.ensures.message) (rw c.number-port.ensures at c.in-Ok.ensures.bit)
    (rw (← c.self.view_is) at c.lose.ensures.next) c.look.ensures)

pub returns-in-Err : goal.returns-in-Err
returns-in-Err g c = rw (← c.self.view_is) (wait_refused _ _ c.in-Err.why (rw c.number-port.ensures at c.in-Err.ensures.alert)
    (rw (← c.self.view_is) at c.refuse.ensures))
