-- The object is made if it is shown to fit, and is shown where it is made.
use Rattle.std.proofs.Common.{[], ap, ◌∙◌}
use Rattle.sigsem.specs.Semaphores.{free_sem}
use Rattle.execmodel.specs.{State.Semaphore, Semaphores.is_semaphore, Memory.placed, LowMemory.after_asking_for_object, Objects.place_for_object}
use Rattle.execheap.proofs.heap.Heap.new_semaphore.Goals as goal

pub returns-clause-address : goal.returns-clause-address
returns-clause-address g c = c.make_semaphore.ensures.address ∙ ap (λ m. place_for_object is_semaphore 46 (after_asking_for_object is_semaphore 46 m)) c.self.view_is

pub returns-clause-next : goal.returns-clause-next
returns-clause-next g c = c.make_semaphore.ensures.next ∙ ap (λ m. placed 46 (Semaphore free_sem []) c.make_semaphore.result (after_asking_for_object is_semaphore 46 m)) c.self.view_is
