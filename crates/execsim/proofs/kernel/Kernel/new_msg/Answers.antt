-- The proof of `Kernel::new_msg`: NewMsg port word: answers the address of a new message with that reply port, or none
-- for 0, and that word; or 0.
use Rattle.execsim.proofs.Porting.{message_made, message_refused}
use Rattle.execsim.proofs.kernel.Kernel.new_msg.Goals as goal

pub returns-in-Ok : goal.returns-in-Ok
returns-in-Ok g c = rw (← c.self.view_is) (message_made _ _ _ c.in-Ok.message (rw c.number-reply.ensures at c.in-Ok.ensures.alert)
    c.in-Ok.ensures.address (rw (c.number-reply.ensures, c.number-word.ensures) at c.in-Ok.ensures.next)
    (rw c.unwrap_or.ensures at c.answer.ensures))

pub returns-in-Err : goal.returns-in-Err
returns-in-Err g c = rw (← c.self.view_is) (message_refused _ _ _ c.in-Err.why (rw c.number-reply.ensures at c.in-Err.ensures.alert)
    c.in-Err.ensures.kept c.refuse.ensures)
