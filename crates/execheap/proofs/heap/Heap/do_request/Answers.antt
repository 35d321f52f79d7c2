-- The request that is shown is begun, and the task looks for it.
use Rattle.std.proofs.Common.{true, ap, sym, ◌∙◌}
use Rattle.iorequest.specs.Requests.{is_request, request_at}
use Rattle.execmodel.specs.Requests.{begun_at}
use Rattle.execheap.specs.{Listing.awaited_for, Numbered.Numbered, Numbered.shown_heap, Numbered.shown_memory, Requesting.looked_for}
use Rattle.execheap.proofs.{RequestAnswers.begun_awaited, RequestAnswers.begun_lives, RequestsShown.begun_shown}
use Rattle.execheap.proofs.heap.Heap.do_request.Goals as goal

pub looked_for-requires : goal.looked_for-requires
looked_for-requires g c =
    ap (λ (x : Numbered). is_request c.in_ok-r.r x.requests) c.begin_request.ensures.next
    ∙ begun_lives c.self.inside.objects c.in_ok-r.r true c.in_ok-r.ensures.live

pub returns-clause-answer : goal.returns-clause-answer
returns-clause-answer g c =
    let f = c.in_ok-r.ensures.known in
    c.looked_for.ensures
    ∙ ap (λ (x : Numbered). looked_for (request_at c.in_ok-r.r x.requests) c.in_ok-r.bit) c.begin_request.ensures.next
    ∙ begun_awaited f.sound f.ports f.memory c.in_ok-r.r c.args.request c.in_ok-r.ensures.found c.in_ok-r.ensures.live true c.in_ok-r.bit c.in_ok-r.ensures.bit
    ∙ ap (λ (x : Numbered). awaited_for c.args.request (shown_heap x)) (sym c.begin_request.ensures.next)

pub returns-clause-next : goal.returns-clause-next
returns-clause-next g c =
    let f = c.in_ok-r.ensures.known in
    ap shown_memory c.begin_request.ensures.next
    ∙ begun_shown f.sound f.ports f.memory c.in_ok-r.r c.args.request c.in_ok-r.ensures.found true
    ∙ ap (begun_at true c.args.request) c.self.view_is
