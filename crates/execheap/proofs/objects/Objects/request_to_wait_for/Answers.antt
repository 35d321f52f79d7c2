-- The request is asked for first, and then what its state asks for.
use Rattle.std.proofs.Common.{◌≡◌, ap, sym, ◌∙◌, if◌then◌else◌, None, Some, codes}
use Rattle.iorequest.specs.{declared.request.ReqState.ReqState, declared.request.ReqState.TheVariants.Replied, declared.request.Request.Request as TimerRequest, Requests.request_at}
use Rattle.execmodel.specs.{Ports.port_of, Ports.wait_alert, Requests.request_of, Requests.state_alert, Requests.wait_io_alert}
use Rattle.msgport.specs.Port.{Port}
use Rattle.execheap.specs.Numbered.{shown_heap}
use Rattle.execheap.proofs.objects.Objects.request_to_wait_for.Goals.{After-is_reply_queued-queued, After-reply_port, After-state}
use Rattle.execheap.proofs.{Posted.port_of_shown, RequestAlerts.reply_shown, RequestAlerts.wait_io_past, RequestAlerts.wait_io_refused, Passed.passed_on}
use Rattle.execheap.proofs.objects.Objects.request_to_wait_for.Goals as goal
use Rattle.script.specs.declared.alert.Alert.TheVariants as an_alert

-- what its state asks for
module _ (g : _) (c : After-state g) where
  in_state : {state : ReqState} → c.state.result ≡ state
      → state_alert state c.args.task c.args.request (shown_heap c.args.self.now) ≡ wait_io_alert c.args.task c.args.request (shown_heap c.args.self.now)
  in_state is = sym (wait_io_past c.args.request (shown_heap c.args.self.now) c.args.task (request_at c.in_ok-r.r c.args.self.now.requests) (sym c.in_ok-r.ensures.alert)
      c.in_ok-r.ensures.content (ap (λ x. (request_at c.in_ok-r.r x).state) (sym c.requests.ensures) ∙ sym c.state.ensures ∙ is))

port : (g : _) (c : After-reply_port g) → c.reply_port.result ≡ (request_of c.args.request (shown_heap c.args.self.now)).port
port g c = c.reply_port.ensures ∙ ap (λ x. (request_at c.in_ok-r.r x).port) c.requests-in-UnderWay.ensures ∙ ap (λ (q : TimerRequest). q.port) c.in_ok-r.ensures.content

replied : (g : _) (c : After-is_reply_queued-queued g)
    → state_alert Replied c.args.task c.args.request (shown_heap c.args.self.now) ≡ wait_io_alert c.args.task c.args.request (shown_heap c.args.self.now)
    → (if c.is_reply_queued-queued.result then None else Some an_alert.Link) ≡ wait_io_alert c.args.task c.args.request (shown_heap c.args.self.now)
replied g c is = ap (λ b. if b then None else Some an_alert.Link)
    (c.is_reply_queued-queued.ensures.value ∙ sym (reply_shown c.in_ok-r.ensures.known.sound c.in_ok-r.ensures.known.ports c.in_ok-r.r c.args.request c.in_ok-r.ensures.found))
    ∙ is

pub returns-in_err-r-clause-alert : goal.returns-in_err-r-clause-alert
returns-in_err-r-clause-alert g c =
    passed_on c.from_residual.result c.in_err-r.field-0.0 c.from_residual.ensures.1
    ∙ sym (wait_io_refused c.args.request (shown_heap c.args.self.now) c.args.task (sym c.in_err-r.ensures.alert))

pub returns-in-Idle-clause-alert : goal.returns-in-Idle-clause-alert
returns-in-Idle-clause-alert g c = in_state g (goal.at.returns-in-Idle-clause-alert g c).After-state c.in-Idle.is

pub returns-in-Quick-clause-alert : goal.returns-in-Quick-clause-alert
returns-in-Quick-clause-alert g c = in_state g (goal.at.returns-in-Quick-clause-alert g c).After-state c.in-Quick.is

pub returns-in_err-bit-in-UnderWay-clause-alert : goal.returns-in_err-bit-in-UnderWay-clause-alert
returns-in_err-bit-in-UnderWay-clause-alert g c =
    passed_on c.from_residual-in_err-bit-in-UnderWay.result c.in_err-bit-in-UnderWay.field-0.0 c.from_residual-in_err-bit-in-UnderWay.ensures.1
    ∙ c.in_err-bit-in-UnderWay.ensures.alert ∙ ap (λ a. wait_alert c.args.task a (shown_heap c.args.self.now)) (port g (goal.at.returns-in_err-bit-in-UnderWay-clause-alert g c).After-reply_port) ∙ in_state g (goal.at.returns-in_err-bit-in-UnderWay-clause-alert g c).After-state c.in-UnderWay.is

pub returns-in_ok-bit-in-UnderWay-clause-alert : goal.returns-in_ok-bit-in-UnderWay-clause-alert
returns-in_ok-bit-in-UnderWay-clause-alert g c =
    c.in_ok-bit-in-UnderWay.ensures.alert ∙ ap (λ a. wait_alert c.args.task a (shown_heap c.args.self.now)) (port g (goal.at.returns-in_ok-bit-in-UnderWay-clause-alert g c).After-reply_port) ∙ in_state g (goal.at.returns-in_ok-bit-in-UnderWay-clause-alert g c).After-state c.in-UnderWay.is

pub returns-in_ok-bit-in-UnderWay-clause-bit : goal.returns-in_ok-bit-in-UnderWay-clause-bit
returns-in_ok-bit-in-UnderWay-clause-bit g c way =
    c.in_ok-bit-in-UnderWay.ensures.bit
    ∙ ap (λ (p : Port). p.bit) (sym (port_of_shown c.in_ok-r.ensures.known.sound c.in_ok-bit-in-UnderWay.field-0-0 c.reply_port.result c.in_ok-bit-in-UnderWay.ensures.found))
    ∙ ap (λ a. (port_of a (shown_heap c.args.self.now)).bit) (port g (goal.at.returns-in_ok-bit-in-UnderWay-clause-bit g c).After-reply_port)

pub returns-then-queued-clause-alert : goal.returns-then-queued-clause-alert
returns-then-queued-clause-alert g c = ap (λ b. if b then None else Some an_alert.Link) (sym c.if-queued.true) ∙ replied g (goal.at.returns-then-queued-clause-alert g c).After-is_reply_queued-queued (in_state g (goal.at.returns-then-queued-clause-alert g c).After-state c.in-Replied.is)

pub returns-else-queued-clause-alert : goal.returns-else-queued-clause-alert
returns-else-queued-clause-alert g c = ap (λ b. if b then None else Some an_alert.Link) (sym c.if-queued.false) ∙ replied g (goal.at.returns-else-queued-clause-alert g c).After-is_reply_queued-queued (in_state g (goal.at.returns-else-queued-clause-alert g c).After-state c.in-Replied.is)
