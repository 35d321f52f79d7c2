-- The object is made if it is shown to fit, and is shown where it is made.
use Rattle.std.proofs.Common.{[], ap, ◌∙◌}
use Rattle.msgport.specs.Port.{new_port}
use Rattle.execmodel.specs.{State.MsgPort, Ports.is_port, Memory.placed, LowMemory.after_asking_for_object, Objects.place_for_object}
use Rattle.execheap.proofs.heap.Heap.new_port.Goals as goal

pub returns-clause-address : goal.returns-clause-address
returns-clause-address g c = c.make_port.ensures.address ∙ ap (λ m. place_for_object is_port 34 (after_asking_for_object is_port 34 m)) c.self.view_is

pub returns-clause-next : goal.returns-clause-next
returns-clause-next g c = c.make_port.ensures.next ∙ ap (λ m. placed 34 (MsgPort (new_port c.args.task c.args.bit) []) c.make_port.result (after_asking_for_object is_port 34 m)) c.self.view_is
