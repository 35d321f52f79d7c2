-- The proof of `Kernel::free_node`: FreeNode node: frees a node.
use Rattle.std.proofs.Common.{refl}
use Rattle.execmodel.specs.{Memory.freed, Deeds.performs, Lists.free_node_alert, Lists.list_deed}
use Rattle.execsim.proofs.Listing.{heap_changed}
use Rattle.execsim.proofs.kernel.Kernel.free_node.Goals as goal

pub returns : goal.returns
unfolding performs list_deed
returns g c = rw (← c.self.view_is) (heap_changed _ _ (free_node_alert _) (freed _) (λ y. refl) _ _
    (rw c.number-node.ensures at c.free_node-tried.ensures.alert)
    (rw c.number-node.ensures at c.free_node-tried.ensures.next) c.free_node-tried.ensures.kept c.conclude.ensures)
