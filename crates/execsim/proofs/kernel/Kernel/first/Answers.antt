-- The proof of `Kernel::first`: first list: answers the first node, or 0 for an empty list.
use Rattle.execmodel.specs.{Deeds.performs, Lists.first_of, Lists.list_alert, Lists.list_deed}
use Rattle.execsim.proofs.Listing.{heap_read}
use Rattle.execsim.proofs.kernel.Kernel.first.Goals as goal

pub returns : goal.returns
unfolding performs list_deed
returns g c = rw (← c.self.view_is) (heap_read _ _ (list_alert _) (first_of _) _
    (rw c.number-list.ensures at c.first-tried.ensures.alert) (rw c.number-list.ensures at c.first-tried.ensures.answer)
    (rw (← c.self.view_is) at c.conclude_with.ensures))
