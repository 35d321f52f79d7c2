-- A request may begin if it may by number.
use Rattle.std.proofs.Common.{ap, sym, ◌∙◌}
use Rattle.iorequest.specs.{Request.is_opened, Requests.request_at}
use Rattle.execheap.specs.Numbered.{shown_heap}
use Rattle.execheap.proofs.{RequestAlerts.begin_found, RequestAlerts.begin_refused, RequestAlerts.begin_shut, RequestAlerts.reply_shown, Passed.passed_on}
use Rattle.execheap.proofs.objects.Objects.request_to_begin.Goals as goal

pub returns-in_err-r-clause-alert : goal.returns-in_err-r-clause-alert
returns-in_err-r-clause-alert g c =
    passed_on c.from_residual.result c.in_err-r.field-0.0 c.from_residual.ensures.1
    ∙ sym (begin_refused c.args.request (shown_heap c.args.self.now) (sym c.in_err-r.ensures.alert))

pub returns-then-not-open-clause-alert : goal.returns-then-not-open-clause-alert
returns-then-not-open-clause-alert g c =
    sym (begin_shut c.args.request (shown_heap c.args.self.now) (request_at c.in_ok-r.r c.args.self.now.requests) c.in_ok-r.ensures.content
    (sym c.in_ok-r.ensures.alert) (ap (λ x. is_opened (request_at c.in_ok-r.r x)) (sym c.requests.ensures) ∙ sym c.is_open-open.ensures ∙ c.if-not-open.true))

pub returns-then-queued-clause-alert : goal.returns-then-queued-clause-alert
returns-then-queued-clause-alert g c =
    let f = c.in_ok-r.ensures.known in
    sym (begin_found c.args.request (shown_heap c.args.self.now) (request_at c.in_ok-r.r c.args.self.now.requests) c.in_ok-r.ensures.content
    (sym c.in_ok-r.ensures.alert) (ap (λ x. is_opened (request_at c.in_ok-r.r x)) (sym c.requests.ensures) ∙ sym c.is_open-open.ensures ∙ c.if-not-open.false)
    (reply_shown f.sound f.ports c.in_ok-r.r c.args.request c.in_ok-r.ensures.found ∙ sym c.is_reply_queued-queued.ensures.value ∙ c.if-queued.true))

pub returns-else-queued-clause-alert : goal.returns-else-queued-clause-alert
returns-else-queued-clause-alert g c =
    let f = c.in_ok-r.ensures.known in
    sym (begin_found c.args.request (shown_heap c.args.self.now) (request_at c.in_ok-r.r c.args.self.now.requests) c.in_ok-r.ensures.content
    (sym c.in_ok-r.ensures.alert) (ap (λ x. is_opened (request_at c.in_ok-r.r x)) (sym c.requests.ensures) ∙ sym c.is_open-open.ensures ∙ c.if-not-open.false)
    (reply_shown f.sound f.ports c.in_ok-r.r c.args.request c.in_ok-r.ensures.found ∙ sym c.is_reply_queued-queued.ensures.value ∙ c.if-queued.false))
