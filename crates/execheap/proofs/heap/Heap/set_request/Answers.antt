-- The request that is shown has the command and the time.
use Rattle.std.proofs.Common.{ap, ◌∙◌}
use Rattle.execmodel.specs.{State.on_heap, Requests.with_command}
use Rattle.execheap.specs.Numbered.{shown_memory}
use Rattle.execheap.proofs.RequestsShown.{command_shown}
use Rattle.execheap.proofs.heap.Heap.set_request.Goals as goal

pub returns-clause-next : goal.returns-clause-next
returns-clause-next g c =
    let f = c.in_ok-r.ensures.known in
    ap shown_memory c.set_request.ensures
    ∙ command_shown f.sound f.ports f.memory c.in_ok-r.r c.args.request c.in_ok-r.ensures.found c.args.command c.args.secs c.args.micros
    ∙ ap (on_heap (with_command c.args.command c.args.secs c.args.micros c.args.request)) c.self.view_is
