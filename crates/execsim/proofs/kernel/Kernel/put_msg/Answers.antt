-- The proof of `Kernel::put_msg`: PutMsg port message: puts a message at a port, after those that it has.
use Rattle.execsim.proofs.Porting.{put_tried}
use Rattle.execsim.proofs.kernel.Kernel.put_msg.Goals as goal

pub returns : goal.returns
returns g c = rw (← c.self.view_is) (put_tried _ _ _ _
    (rw (c.number-port.ensures, c.number-message.ensures) at c.put_message-tried.ensures.alert)
    (rw c.number-port.ensures at c.put_message-tried.ensures.answer)
    (rw (c.number-port.ensures, c.number-message.ensures) at c.put_message-tried.ensures.next) c.put_message-tried.ensures.kept
    c.end_putting.ensures)
