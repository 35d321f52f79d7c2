-- The proof of `Kernel::rem_head`: RemHead list: takes the first node out and answers it, or 0 for an empty list.
use Rattle.std.proofs.Common.{refl}
use Rattle.execmodel.specs.{State.on_heap, Deeds.performs, Lists.first_of, Lists.list_alert, Lists.list_deed, Lists.removed_head}
use Rattle.execsim.proofs.Listing.{heap_taken}
use Rattle.execsim.proofs.kernel.Kernel.rem_head.Goals as goal

pub returns : goal.returns
unfolding performs list_deed
returns g c = rw (← c.self.view_is) (heap_taken _ _ (list_alert _) (first_of _)
    (on_heap (removed_head _)) (λ y. refl) _ _
    (rw c.number-list.ensures at c.rem_head-tried.ensures.alert) (rw c.number-list.ensures at c.rem_head-tried.ensures.answer)
    (rw c.number-list.ensures at c.rem_head-tried.ensures.next) c.rem_head-tried.ensures.kept c.conclude_with.ensures)
