-- The task looks for the request that is shown, and its reply is taken.
use Rattle.std.proofs.Common.{ap, ◌∙◌}
use Rattle.execlist.specs.Pool.{Pooled}
use Rattle.iorequest.specs.{declared.request.Request.Request, Requests.request_at}
use Rattle.execmodel.specs.State.{Memory, on_heap}
use Rattle.execheap.specs.{Listing.awaited_for, Listing.taken_if_replied, Numbered.Numbered, Numbered.shown_heap, Numbered.shown_memory, Requesting.looked_for}
use Rattle.execheap.proofs.RequestAnswers.{looked_shown, requests_out, taken_if_shown}
use Rattle.execheap.proofs.heap.Heap.wait_for_request.Goals as goal

pub returns-clause-answer : goal.returns-clause-answer
returns-clause-answer g c =
    let s = c.self.inside.objects in
    c.looked_for.ensures
    ∙ ap (λ (x : Numbered). looked_for (request_at c.in_ok-r.r x.requests) c.in_ok-r.bit) c.take_reply.ensures
    ∙ ap (λ (m : Pooled Request). looked_for (request_at c.in_ok-r.r m) c.in_ok-r.bit) (requests_out (request_at c.in_ok-r.r s.requests).state c.in_ok-r.r s)
    ∙ looked_shown (request_at c.in_ok-r.r s.requests) c.in_ok-r.bit c.args.request (shown_heap s) c.in_ok-r.ensures.content c.in_ok-r.ensures.bit
    ∙ ap (λ (m : Memory). awaited_for c.args.request m.heap) c.self.view_is

pub returns-clause-next : goal.returns-clause-next
returns-clause-next g c =
    let f = c.in_ok-r.ensures.known in
    ap shown_memory c.take_reply.ensures
    ∙ taken_if_shown f.sound f.ports f.memory c.in_ok-r.r c.args.request c.in_ok-r.ensures.found c.in_ok-r.ensures.queued
    ∙ ap (on_heap (taken_if_replied c.args.request)) c.self.view_is
