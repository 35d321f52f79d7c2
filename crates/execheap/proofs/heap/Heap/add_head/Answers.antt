-- The node is first in the list that is shown.
use Rattle.std.proofs.Common.{ap, ◌∙◌}
use Rattle.execmodel.specs.{State.on_heap, Lists.added_head}
use Rattle.execheap.specs.Numbered.{shown_memory}
use Rattle.execheap.proofs.Linking.{at_head_shown}
use Rattle.execheap.proofs.heap.Heap.add_head.Goals as goal

pub returns-clause-next : goal.returns-clause-next
returns-clause-next g c =
    let f = c.in_ok-h.ensures.known in
    ap shown_memory c.add_head.ensures
    ∙ at_head_shown f.sound f.space f.memory c.in_ok-h.h c.in_ok-h.n c.args.list c.args.node c.in_ok-h.ensures.list c.in_ok-h.ensures.node
    ∙ ap (on_heap (added_head c.args.list c.args.node)) c.self.view_is
