-- The proof of `Kernel::free_msg`: FreeMsg message: frees a message.
use Rattle.std.proofs.Common.{refl}
use Rattle.execmodel.specs.{Memory.freed, Ports.does_free_msg, Ports.unqueued_alert}
use Rattle.execsim.proofs.Listing.{heap_changed}
use Rattle.execsim.proofs.kernel.Kernel.free_msg.Goals as goal

pub returns : goal.returns
unfolding does_free_msg
returns g c = rw (← c.self.view_is) (heap_changed _ _ (unqueued_alert _) (freed _) (λ y. refl) _ _
    (rw c.number-message.ensures at c.free_message-tried.ensures.alert)
    (rw c.number-message.ensures at c.free_message-tried.ensures.next) c.free_message-tried.ensures.kept c.conclude.ensures)
