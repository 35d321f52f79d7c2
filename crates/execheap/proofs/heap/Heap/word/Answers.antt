-- The word of the message that is shown is answered.
use Rattle.std.proofs.Common.{ap, sym, ◌∙◌}
use Rattle.execmodel.specs.{State.Memory, Ports.content_of}
use Rattle.msgport.specs.Ports.{MessagePorts, message_at}
use Rattle.execheap.proofs.Posted.{content_of_shown}
use Rattle.execheap.proofs.heap.Heap.word.Goals as goal

pub returns-clause-answer : goal.returns-clause-answer
returns-clause-answer g c =
    c.word.ensures ∙ ap (λ (q : MessagePorts). (message_at c.in_ok-m.m q).word) c.ports.ensures
    ∙ ap (λ content. content.word) (sym (content_of_shown c.in_ok-m.ensures.known.sound c.in_ok-m.m c.args.message c.in_ok-m.ensures.found))
    ∙ ap (λ (m : Memory). (content_of c.args.message m.heap).word) c.self.view_is
