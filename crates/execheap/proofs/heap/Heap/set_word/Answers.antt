-- The message that is shown has the word.
use Rattle.std.proofs.Common.{ap, ◌∙◌}
use Rattle.execmodel.specs.{State.on_heap, Ports.with_message_word}
use Rattle.execheap.specs.Numbered.{shown_memory}
use Rattle.execheap.proofs.Posted.{word_shown}
use Rattle.execheap.proofs.heap.Heap.set_word.Goals as goal

pub returns-clause-next : goal.returns-clause-next
returns-clause-next g c =
    let f = c.in_ok-m.ensures.known in
    ap shown_memory c.set_word.ensures
    ∙ word_shown f.sound f.ports f.memory c.in_ok-m.m c.args.message c.in_ok-m.ensures.found c.in_ok-m.ensures.live c.args.word
    ∙ ap (on_heap (with_message_word c.args.message c.args.word)) c.self.view_is
