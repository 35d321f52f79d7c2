-- The request is asked for first, and then its reply port.
use Rattle.std.proofs.Common.{ap, sym, ◌∙◌}
use Rattle.iorequest.specs.{declared.request.Request.Request as TimerRequest, Requests.request_at}
use Rattle.execmodel.specs.Ports.{port_alert}
use Rattle.execheap.specs.Numbered.{shown_heap}
use Rattle.execheap.proofs.{RequestAlerts.send_past, RequestAlerts.send_refused, Passed.passed_on}
use Rattle.execheap.proofs.objects.Objects.request_to_send.Goals as goal

pub returns-in_err-r-clause-alert : goal.returns-in_err-r-clause-alert
returns-in_err-r-clause-alert g c =
    passed_on c.from_residual.result c.in_err-r.field-0.0 c.from_residual.ensures.1
    ∙ sym (send_refused c.args.request (shown_heap c.args.self.now) (sym c.in_err-r.ensures.alert))

pub returns-in_err-port_at-clause-alert : goal.returns-in_err-port_at-clause-alert
returns-in_err-port_at-clause-alert g c =
    let heap = shown_heap c.args.self.now in
    let port = c.reply_port.ensures ∙ ap (λ x. (request_at c.in_ok-r.r x).port) c.requests.ensures ∙ ap (λ (q : TimerRequest). q.port) c.in_ok-r.ensures.content in
    passed_on c.from_residual-in_err-port_at.result c.in_err-port_at.field-0.0 c.from_residual-in_err-port_at.ensures.1
    ∙ c.in_err-port_at.ensures.alert ∙ ap (λ a. port_alert a heap) port ∙ sym (send_past c.args.request heap (sym c.in_ok-r.ensures.alert))

pub returns-clause-alert : goal.returns-clause-alert
returns-clause-alert g c =
    let heap = shown_heap c.args.self.now in
    let port = c.reply_port.ensures ∙ ap (λ x. (request_at c.in_ok-r.r x).port) c.requests.ensures ∙ ap (λ (q : TimerRequest). q.port) c.in_ok-r.ensures.content in
    c.in_ok-port_at.ensures.alert ∙ ap (λ a. port_alert a heap) port ∙ sym (send_past c.args.request heap (sym c.in_ok-r.ensures.alert))
