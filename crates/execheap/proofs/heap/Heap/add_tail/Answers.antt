-- The node is last in the list that is shown.
use Rattle.std.proofs.Common.{ap, ◌∙◌}
use Rattle.execmodel.specs.{State.on_heap, Lists.added_tail}
use Rattle.execheap.specs.Numbered.{shown_memory}
use Rattle.execheap.proofs.Linking.{at_tail_shown}
use Rattle.execheap.proofs.heap.Heap.add_tail.Goals as goal

pub returns-clause-next : goal.returns-clause-next
returns-clause-next g c =
    let f = c.in_ok-h.ensures.known in
    ap shown_memory c.add_tail.ensures
    ∙ at_tail_shown f.sound f.space f.memory c.in_ok-h.h c.in_ok-h.n c.args.list c.args.node c.in_ok-h.ensures.list c.in_ok-h.ensures.node
    ∙ ap (on_heap (added_tail c.args.list c.args.node)) c.self.view_is
