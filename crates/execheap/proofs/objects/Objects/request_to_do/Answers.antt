-- The request is asked for first, and then its reply port.
use Rattle.std.proofs.Common.{ap, sym, ◌∙◌}
use Rattle.iorequest.specs.{declared.request.Request.Request as TimerRequest, Requests.request_at}
use Rattle.execmodel.specs.Ports.{port_of, wait_alert}
use Rattle.msgport.specs.Port.{Port}
use Rattle.execheap.specs.Numbered.{shown_heap}
use Rattle.execheap.proofs.{Posted.port_of_shown, RequestAlerts.do_past, RequestAlerts.do_refused, Passed.passed_on}
use Rattle.execheap.proofs.objects.Objects.request_to_do.Goals as goal

pub returns-in_err-r-clause-alert : goal.returns-in_err-r-clause-alert
returns-in_err-r-clause-alert g c =
    passed_on c.from_residual.result c.in_err-r.field-0.0 c.from_residual.ensures.1
    ∙ sym (do_refused c.args.request (shown_heap c.args.self.now) c.args.task (sym c.in_err-r.ensures.alert))

pub returns-in_err-bit-clause-alert : goal.returns-in_err-bit-clause-alert
returns-in_err-bit-clause-alert g c =
    let heap = shown_heap c.args.self.now in
    let port = c.reply_port.ensures ∙ ap (λ x. (request_at c.in_ok-r.r x).port) c.requests.ensures ∙ ap (λ (q : TimerRequest). q.port) c.in_ok-r.ensures.content in
    passed_on c.from_residual-in_err-bit.result c.in_err-bit.field-0.0 c.from_residual-in_err-bit.ensures.1
    ∙ c.in_err-bit.ensures.alert ∙ ap (λ a. wait_alert c.args.task a heap) port ∙ sym (do_past c.args.request heap c.args.task (sym c.in_ok-r.ensures.alert))

pub returns-clause-alert : goal.returns-clause-alert
returns-clause-alert g c =
    let heap = shown_heap c.args.self.now in
    let port = c.reply_port.ensures ∙ ap (λ x. (request_at c.in_ok-r.r x).port) c.requests.ensures ∙ ap (λ (q : TimerRequest). q.port) c.in_ok-r.ensures.content in
    c.in_ok-bit.ensures.alert ∙ ap (λ a. wait_alert c.args.task a heap) port ∙ sym (do_past c.args.request heap c.args.task (sym c.in_ok-r.ensures.alert))

pub returns-clause-bit : goal.returns-clause-bit
returns-clause-bit g c =
    let heap = shown_heap c.args.self.now in
    let port = c.reply_port.ensures ∙ ap (λ x. (request_at c.in_ok-r.r x).port) c.requests.ensures ∙ ap (λ (q : TimerRequest). q.port) c.in_ok-r.ensures.content in
    c.in_ok-bit.ensures.bit
    ∙ ap (λ (p : Port). p.bit) (sym (port_of_shown c.in_ok-r.ensures.known.sound c.in_ok-bit.field-0-0 c.reply_port.result c.in_ok-bit.ensures.found))
    ∙ ap (λ a. (port_of a heap).bit) port
