-- The proof of `Kernel::free_list`: FreeList list: frees an empty list.
use Rattle.std.proofs.Common.{refl}
use Rattle.execmodel.specs.{Memory.freed, Deeds.performs, Lists.free_list_alert, Lists.list_deed}
use Rattle.execsim.proofs.Listing.{heap_changed}
use Rattle.execsim.proofs.kernel.Kernel.free_list.Goals as goal

pub returns : goal.returns
unfolding performs list_deed
returns g c = rw (← c.self.view_is) (heap_changed _ _ (free_list_alert _) (freed _) (λ y. refl) _ _
    (rw c.number-list.ensures at c.free_list-tried.ensures.alert)
    (rw c.number-list.ensures at c.free_list-tried.ensures.next) c.free_list-tried.ensures.kept c.conclude.ensures)
