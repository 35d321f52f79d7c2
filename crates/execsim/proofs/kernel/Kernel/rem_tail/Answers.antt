-- The proof of `Kernel::rem_tail`: RemTail list: takes the last node out and answers it, or 0 for an empty list.
use Rattle.std.proofs.Common.{refl}
use Rattle.execmodel.specs.{State.on_heap, Deeds.performs, Lists.last_of, Lists.list_alert, Lists.list_deed, Lists.removed_tail}
use Rattle.execsim.proofs.Listing.{heap_taken}
use Rattle.execsim.proofs.kernel.Kernel.rem_tail.Goals as goal

pub returns : goal.returns
unfolding performs list_deed
returns g c = rw (← c.self.view_is) (heap_taken _ _ (list_alert _) (last_of _)
    (on_heap (removed_tail _)) (λ y. refl) _ _
    (rw c.number-list.ensures at c.rem_tail-tried.ensures.alert) (rw c.number-list.ensures at c.rem_tail-tried.ensures.answer)
    (rw c.number-list.ensures at c.rem_tail-tried.ensures.next) c.rem_tail-tried.ensures.kept c.conclude_with.ensures)
