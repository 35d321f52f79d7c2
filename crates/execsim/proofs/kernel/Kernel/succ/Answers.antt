-- The proof of `Kernel::succ`: succ node: answers the node after a linked one, or 0.
use Rattle.execmodel.specs.{Deeds.performs, Lists.linked_alert, Lists.list_deed, Lists.succ_of}
use Rattle.execsim.proofs.Listing.{heap_read}
use Rattle.execsim.proofs.kernel.Kernel.succ.Goals as goal

pub returns : goal.returns
unfolding performs list_deed
returns g c = rw (← c.self.view_is) (heap_read _ _ (linked_alert _) (succ_of _) _
    (rw c.number-node.ensures at c.succ-tried.ensures.alert) (rw c.number-node.ensures at c.succ-tried.ensures.answer)
    (rw (← c.self.view_is) at c.conclude_with.ensures))
