-- The proof of `Kernel::enqueue`: enqueue list node: puts the node before the first one of lower priority, or last.
use Rattle.std.proofs.Common.{refl}
use Rattle.execmodel.specs.{State.on_heap, Deeds.performs, Lists.enqueued, Lists.link_alert, Lists.list_deed}
use Rattle.execsim.proofs.Listing.{heap_changed}
use Rattle.execsim.proofs.kernel.Kernel.enqueue.Goals as goal

pub returns : goal.returns
unfolding performs list_deed
returns g c = rw (← c.self.view_is) (heap_changed _ _ (link_alert _ _) (on_heap (enqueued _ _)) (λ y. refl) _ _
    (rw (c.number-list.ensures, c.number-node.ensures) at c.enqueue-tried.ensures.alert)
    (rw (c.number-list.ensures, c.number-node.ensures) at c.enqueue-tried.ensures.next) c.enqueue-tried.ensures.kept c.conclude.ensures)
