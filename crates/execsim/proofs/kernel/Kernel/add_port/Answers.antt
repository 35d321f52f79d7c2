-- The proof of `Kernel::add_port`: AddPort port name pri: makes a port public.
use Rattle.execsim.proofs.Porting.{add_outside, add_tried, add_unknown}
use Rattle.execsim.proofs.kernel.Kernel.add_port.Goals as goal

pub returns-then-is_priority : goal.returns-then-is_priority
returns-then-is_priority g c = add_tried _ _ _ (rw (c.number-port.ensures, c.number-pri.ensures) at c.make_public-tried.ensures.alert)
    (rw (c.number-port.ensures, c.number-pri.ensures, c.name.ensures) at c.make_public-tried.ensures.next) c.make_public-tried.ensures.kept
    c.conclude.ensures

pub returns-then-is_port : goal.returns-then-is_port
returns-then-is_port g c = rw (← c.self.view_is) (add_outside _ _ (rw (c.is_priority.ensures, c.number-pri.ensures) at c.if-is_priority.false)
    (rw (c.is_port.ensures, c.number-port.ensures) at c.if-is_port.true) (rw (← c.self.view_is) at c.alert.ensures))

pub returns-else-is_port : goal.returns-else-is_port
returns-else-is_port g c = rw (← c.self.view_is) (add_unknown _ _ (rw (c.is_port.ensures, c.number-port.ensures) at c.if-is_port.false)
    (rw (← c.self.view_is) at c.alert-else-is_port.ensures))
