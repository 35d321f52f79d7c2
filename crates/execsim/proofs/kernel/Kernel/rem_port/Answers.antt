-- The proof of `Kernel::rem_port`: RemPort port: makes a port public no more.
use Rattle.execmodel.specs.Ports.{does_rem_port, made_private, rem_port_alert}
use Rattle.execsim.proofs.{Listing.follows_changed, PortOrder.made_private-in_order, PortOrder.rem_port_alert-in_order}
use Rattle.execsim.proofs.kernel.Kernel.rem_port.Goals as goal

pub returns : goal.returns
unfolding does_rem_port
returns g c = rw (← c.self.view_is) (follows_changed _ _ (rem_port_alert _) (rem_port_alert-in_order _) (made_private _) (made_private _)
    (made_private-in_order _) _ _
    (rw c.number-port.ensures at c.rem_port-tried.ensures.alert)
    (rw c.number-port.ensures at c.rem_port-tried.ensures.next) c.rem_port-tried.ensures.kept c.conclude.ensures)
