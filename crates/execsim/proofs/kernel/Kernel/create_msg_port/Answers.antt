-- The proof of `Kernel::create_msg_port`: CreateMsgPort: answers the address of a new port, which signals the caller by
-- a newly allocated signal; or 0 if the caller has no signal left, and then no library is asked for memory, or there is
-- no room for the port (autodoc exec.library/CreateMsgPort; when libraries are asked: project rule).
use Rattle.execsim.proofs.Porting.{created, created_without_room, created_without_signal}
use Rattle.execsim.proofs.kernel.Kernel.create_msg_port.Goals as goal

pub returns-in-None : goal.returns-in-None
returns-in-None g c = created_without_signal _ _ c.in-None.ensures.value c.answer.ensures

pub returns-in-None-make_port : goal.returns-in-None-make_port
returns-in-None-make_port g c = created_without_room _ _ c.in-Some.bit c.in-Some.ensures.value c.in-None-make_port.ensures.address
    c.in-None-make_port.ensures.next c.answer-in-None-make_port.ensures

pub returns-in-Some-make_port : goal.returns-in-Some-make_port
returns-in-Some-make_port g c = created _ _ c.in-Some.bit c.in-Some-make_port.port c.in-Some.ensures.value c.in-Some-make_port.ensures.address
    c.in-Some-make_port.ensures.next c.allocate_signal.ensures.next c.answer-in-Some-make_port.ensures
