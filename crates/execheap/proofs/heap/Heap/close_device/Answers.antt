-- The request that is shown is not open.
use Rattle.std.proofs.Common.{ap, ◌∙◌}
use Rattle.execmodel.specs.{State.on_heap, Requests.closed_device}
use Rattle.execheap.specs.Numbered.{shown_memory}
use Rattle.execheap.proofs.RequestsShown.{closed_shown}
use Rattle.execheap.proofs.heap.Heap.close_device.Goals as goal

pub returns-clause-next : goal.returns-clause-next
returns-clause-next g c =
    let f = c.in_ok-r.ensures.known in
    ap shown_memory c.close_request.ensures ∙ closed_shown f.sound f.ports f.memory c.in_ok-r.r c.args.request c.in_ok-r.ensures.found
    ∙ ap (on_heap (closed_device c.args.request)) c.self.view_is
