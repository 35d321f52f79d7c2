-- The node is after its predecessor in the list that is shown.
use Rattle.std.proofs.Common.{ap, ◌∙◌, is_some}
use Rattle.execmodel.specs.{State.on_heap, Lists.inserted}
use Rattle.execheap.specs.Numbered.{shown_memory}
use Rattle.execheap.proofs.Linking.{put_shown}
use Rattle.execheap.proofs.heap.Heap.insert.Goals as goal

pub returns-clause-next : goal.returns-clause-next
returns-clause-next g c =
    let f = c.in_ok-h.ensures.known in
    let e = c.in_ok-h.ensures in
    ap shown_memory c.insert.ensures
    ∙ put_shown f.sound f.space f.memory c.in_ok-h.h c.in_ok-h.n c.args.list c.args.node c.args.pred c.in_ok-h.p e.list e.node e.pred
    (λ m is. f.sound.kept.live_nodes m (ap is_some (e.pred_in m is)))
    ∙ ap (on_heap (inserted c.args.list c.args.node c.args.pred)) c.self.view_is
