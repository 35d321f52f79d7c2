-- The proof of `Kernel::get_msg`: GetMsg port: answers the first message, which leaves the port, or 0.
use Rattle.execsim.proofs.Porting.{get_tried}
use Rattle.execsim.proofs.kernel.Kernel.get_msg.Goals as goal

pub returns : goal.returns
returns g c = rw (← c.self.view_is) (get_tried _ _ _ _
    (rw c.number-port.ensures at c.take_message-tried.ensures.alert)
    (rw c.number-port.ensures at c.take_message-tried.ensures.answer)
    (rw c.number-port.ensures at c.take_message-tried.ensures.none)
    (rw c.number-port.ensures at c.take_message-tried.ensures.next) c.take_message-tried.ensures.kept
    c.conclude_by.ensures)
