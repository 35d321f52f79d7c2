-- The request that is shown is begun.
use Rattle.std.proofs.Common.{false, ap, ◌∙◌}
use Rattle.execmodel.specs.Requests.{begun_at}
use Rattle.execheap.specs.{Listing.acting_begun, Numbered.shown_memory}
use Rattle.execheap.proofs.RequestsShown.{acting_begun_shown, begun_shown}
use Rattle.execheap.proofs.heap.Heap.send_request.Goals as goal

pub returns-clause-answer : goal.returns-clause-answer
returns-clause-answer g c =
    let f = c.in_ok-r.ensures.known in
    c.begin_request.ensures.answer ∙ acting_begun_shown f.sound f.ports f.memory c.in_ok-r.r c.args.request c.in_ok-r.ensures.found false
    ∙ ap (acting_begun false c.args.request) c.self.view_is

pub returns-clause-next : goal.returns-clause-next
returns-clause-next g c =
    let f = c.in_ok-r.ensures.known in
    ap shown_memory c.begin_request.ensures.next
    ∙ begun_shown f.sound f.ports f.memory c.in_ok-r.r c.args.request c.in_ok-r.ensures.found false
    ∙ ap (begun_at false c.args.request) c.self.view_is
