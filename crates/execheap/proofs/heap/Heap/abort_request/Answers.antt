-- The request that is shown is ended, if it is in progress.
use Rattle.std.proofs.Common.{Some, ap, sym, ◌∙◌}
use Rattle.execmodel.specs.State.{Memory}
use Rattle.execheap.specs.{Listing.aborted, Listing.aborting, Numbered.shown_memory}
use Rattle.execheap.proofs.RequestAnswers.{aborted_rest, aborted_way, aborting_rest, aborting_way}
use Rattle.execheap.proofs.heap.Heap.abort_request.Goals as goal

pub returns-then-is_under_way-clause-answer : goal.returns-then-is_under_way-clause-answer
returns-then-is_under_way-clause-answer g c =
    let f = c.in_ok-r.ensures.known in
    ap Some c.abort_request.ensures.answer
    ∙ aborting_way f.sound f.ports f.memory c.in_ok-r.r c.args.request c.in_ok-r.ensures.found (sym c.is_under_way.ensures ∙ c.if-is_under_way.true)
    ∙ ap (λ (m : Memory). aborting c.args.request m.heap) c.self.view_is

pub returns-then-is_under_way-clause-next : goal.returns-then-is_under_way-clause-next
returns-then-is_under_way-clause-next g c =
    let f = c.in_ok-r.ensures.known in
    ap shown_memory c.abort_request.ensures.next
    ∙ aborted_way f.sound f.ports f.memory c.in_ok-r.r c.args.request c.in_ok-r.ensures.found (sym c.is_under_way.ensures ∙ c.if-is_under_way.true)
    ∙ ap (aborted c.args.request) c.self.view_is

pub returns-else-is_under_way-clause-answer : goal.returns-else-is_under_way-clause-answer
returns-else-is_under_way-clause-answer g c =
    let f = c.in_ok-r.ensures.known in
    aborting_rest f.sound f.ports f.memory c.in_ok-r.r c.args.request c.in_ok-r.ensures.found (sym c.is_under_way.ensures ∙ c.if-is_under_way.false)
    ∙ ap (λ (m : Memory). aborting c.args.request m.heap) c.self.view_is

pub returns-else-is_under_way-clause-next : goal.returns-else-is_under_way-clause-next
returns-else-is_under_way-clause-next g c =
    let f = c.in_ok-r.ensures.known in
    sym c.self.view_is
    ∙ aborted_rest f.sound f.ports f.memory c.in_ok-r.r c.args.request c.in_ok-r.ensures.found (sym c.is_under_way.ensures ∙ c.if-is_under_way.false)
    ∙ ap (aborted c.args.request) c.self.view_is
