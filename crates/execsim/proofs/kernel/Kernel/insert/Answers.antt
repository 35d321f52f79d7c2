-- The proof of `Kernel::insert`: insert list node pred: puts the node after pred, or first if pred is 0.
use Rattle.std.proofs.Common.{refl}
use Rattle.execmodel.specs.{State.on_heap, Deeds.performs, Lists.insert_alert, Lists.inserted, Lists.list_deed}
use Rattle.execsim.proofs.Listing.{heap_changed}
use Rattle.execsim.proofs.kernel.Kernel.insert.Goals as goal

pub returns : goal.returns
unfolding performs list_deed
returns g c = rw (← c.self.view_is) (heap_changed _ _ (insert_alert _ _ _) (on_heap (inserted _ _ _)) (λ y. refl) _ _
    (rw (c.number-list.ensures, c.number-node.ensures, c.number-pred.ensures) at c.insert-tried.ensures.alert)
    (rw (c.number-list.ensures, c.number-node.ensures, c.number-pred.ensures) at c.insert-tried.ensures.next) c.insert-tried.ensures.kept c.conclude.ensures)
