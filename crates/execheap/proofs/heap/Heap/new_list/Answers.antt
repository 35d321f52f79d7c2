-- The object is made if it is shown to fit, and is shown where it is made.
use Rattle.std.proofs.Common.{[], ap, ◌∙◌}
use Rattle.execmodel.specs.{State.ListHead, Lists.is_list, Memory.placed, LowMemory.after_asking_for_object, Objects.place_for_object}
use Rattle.execheap.proofs.heap.Heap.new_list.Goals as goal

pub returns-clause-address : goal.returns-clause-address
returns-clause-address g c = c.make_list.ensures.address ∙ ap (λ m. place_for_object is_list 14 (after_asking_for_object is_list 14 m)) c.self.view_is

pub returns-clause-next : goal.returns-clause-next
returns-clause-next g c = c.make_list.ensures.next ∙ ap (λ m. placed 14 (ListHead []) c.make_list.result (after_asking_for_object is_list 14 m)) c.self.view_is
