-- A message is made if it is shown to fit, and is shown where it is made.
use Rattle.std.proofs.Common.{ap, ◌∙◌}
use Rattle.msgport.specs.Ports.{new_message}
use Rattle.execmodel.specs.{State.Message, Memory.placed, LowMemory.after_asking_for_object, Objects.place_for_object, Ports.is_message}
use Rattle.execheap.proofs.heap.Heap.new_message.Goals as goal

pub returns-clause-address : goal.returns-clause-address
returns-clause-address g c = c.make_message.ensures.address ∙ ap (λ m. place_for_object is_message 24 (after_asking_for_object is_message 24 m)) c.self.view_is

pub returns-clause-next : goal.returns-clause-next
returns-clause-next g c =
    c.make_message.ensures.next ∙ ap (λ m. placed 24 (Message (new_message c.args.reply c.args.word)) c.make_message.result (after_asking_for_object is_message 24 m)) c.self.view_is
