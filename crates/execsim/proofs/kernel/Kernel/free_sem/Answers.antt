-- The proof of `Kernel::free_sem`: FreeSem semaphore: frees a semaphore.
use Rattle.std.proofs.Common.{refl}
use Rattle.execmodel.specs.{Memory.freed, Semaphores.does_free_sem, Semaphores.free_sem_alert}
use Rattle.execsim.proofs.Listing.{heap_changed}
use Rattle.execsim.proofs.kernel.Kernel.free_sem.Goals as goal

pub returns : goal.returns
unfolding does_free_sem
returns g c = rw (← c.self.view_is) (heap_changed _ _ (free_sem_alert _) (freed _) (λ y. refl) _ _
    (rw c.number-semaphore.ensures at c.free_semaphore-tried.ensures.alert)
    (rw c.number-semaphore.ensures at c.free_semaphore-tried.ensures.next) c.free_semaphore-tried.ensures.kept c.conclude.ensures)
