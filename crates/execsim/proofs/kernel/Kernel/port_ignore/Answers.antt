-- The proof of `Kernel::port_ignore`: PortIgnore port: the port does nothing when a message arrives.
use Rattle.std.proofs.Common.{refl}
use Rattle.msgport.specs.declared.action.PortAction.TheVariants.{Ignore}
use Rattle.execmodel.specs.{State.on_heap, Ports.does_port_ignore, Ports.port_alert, Ports.with_action}
use Rattle.execsim.proofs.Listing.{heap_changed}
use Rattle.execsim.proofs.kernel.Kernel.port_ignore.Goals as goal

pub returns : goal.returns
unfolding does_port_ignore
returns g c = rw (← c.self.view_is) (heap_changed _ _ (port_alert _) (on_heap (with_action Ignore _)) (λ y. refl) _ _
    (rw c.number-port.ensures at c.set_action-tried.ensures.alert)
    (rw c.number-port.ensures at c.set_action-tried.ensures.next) c.set_action-tried.ensures.kept c.conclude.ensures)
