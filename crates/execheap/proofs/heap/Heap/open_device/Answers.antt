-- The request that is shown is open for the unit, if the timer has it.
use Rattle.std.proofs.Common.{ap, ◌∙◌}
use Rattle.execmodel.specs.{State.on_heap, Requests.opened_for}
use Rattle.execheap.specs.Numbered.{shown_memory}
use Rattle.execheap.proofs.RequestsShown.{opened_shown}
use Rattle.execheap.proofs.heap.Heap.open_device.Goals as goal

pub returns-clause-next : goal.returns-clause-next
returns-clause-next g c =
    let f = c.in_ok-r.ensures.known in
    ap shown_memory c.open_request.ensures.next ∙ opened_shown f.sound f.ports f.memory c.in_ok-r.r c.args.request c.in_ok-r.ensures.found c.args.unit
    ∙ ap (on_heap (opened_for c.args.unit c.args.request)) c.self.view_is
