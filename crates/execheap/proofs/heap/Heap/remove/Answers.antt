-- The node is in no list that is shown.
use Rattle.std.proofs.Common.{ap, ◌∙◌}
use Rattle.execmodel.specs.{State.on_heap, Lists.unlinked}
use Rattle.execheap.specs.Numbered.{shown_memory}
use Rattle.execheap.proofs.Linking.{taken_out_shown}
use Rattle.execheap.proofs.heap.Heap.remove.Goals as goal

pub returns-clause-next : goal.returns-clause-next
returns-clause-next g c =
    let f = c.in_ok-n.ensures.known in
    let e = c.in_ok-n.ensures in
    ap shown_memory c.remove.ensures ∙ taken_out_shown f.sound f.space f.memory c.in_ok-n.n c.args.node _ e.found e.linked
    ∙ ap (on_heap (unlinked c.args.node)) c.self.view_is
