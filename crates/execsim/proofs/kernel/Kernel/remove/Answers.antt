-- The proof of `Kernel::remove`: remove node: takes the node out of its list.
use Rattle.std.proofs.Common.{refl}
use Rattle.execmodel.specs.{State.on_heap, Deeds.performs, Lists.linked_alert, Lists.list_deed, Lists.unlinked}
use Rattle.execsim.proofs.Listing.{heap_changed}
use Rattle.execsim.proofs.kernel.Kernel.remove.Goals as goal

pub returns : goal.returns
unfolding performs list_deed
returns g c = rw (← c.self.view_is) (heap_changed _ _ (linked_alert _) (on_heap (unlinked _)) (λ y. refl) _ _
    (rw c.number-node.ensures at c.remove-tried.ensures.alert)
    (rw c.number-node.ensures at c.remove-tried.ensures.next) c.remove-tried.ensures.kept c.conclude.ensures)
