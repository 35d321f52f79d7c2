-- The proof of `Kernel::add_tail`: AddTail list node: puts the node last.
use Rattle.std.proofs.Common.{refl}
use Rattle.execmodel.specs.{State.on_heap, Deeds.performs, Lists.added_tail, Lists.link_alert, Lists.list_deed}
use Rattle.execsim.proofs.Listing.{heap_changed}
use Rattle.execsim.proofs.kernel.Kernel.add_tail.Goals as goal

pub returns : goal.returns
unfolding performs list_deed
returns g c = rw (← c.self.view_is) (heap_changed _ _ (link_alert _ _) (on_heap (added_tail _ _)) (λ y. refl) _ _
    (rw (c.number-list.ensures, c.number-node.ensures) at c.add_tail-tried.ensures.alert)
    (rw (c.number-list.ensures, c.number-node.ensures) at c.add_tail-tried.ensures.next) c.add_tail-tried.ensures.kept c.conclude.ensures)
