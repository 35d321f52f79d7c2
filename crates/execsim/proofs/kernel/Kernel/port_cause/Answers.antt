-- The proof of `Kernel::port_cause`: PortCause port name: the port causes the software interrupt of that name.
use Rattle.execsim.proofs.Porting.{cause_set}
use Rattle.execsim.proofs.kernel.Kernel.port_cause.Goals as goal

pub returns : goal.returns
returns g c = rw (← c.self.view_is) (cause_set _ _ _ _ _
    (rw (c.name_or_empty.ensures, c.name.ensures, ← c.self.view_is) at c.softint_named-i.ensures)
    (rw c.number-port.ensures at c.set_action-tried.ensures.alert)
    (rw c.number-port.ensures at c.set_action-tried.ensures.next) c.set_action-tried.ensures.kept c.conclude.ensures)
