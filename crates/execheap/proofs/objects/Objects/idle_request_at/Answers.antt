-- A request is in progress if it is by number.
use Rattle.std.proofs.Common.{sym, ◌∙◌}
use Rattle.iorequest.specs.Requests.{request_at}
use Rattle.execheap.specs.Numbered.{shown_heap}
use Rattle.execheap.proofs.{RequestAlerts.resting_found, RequestAlerts.resting_refused, Passed.passed_on}
use Rattle.execheap.proofs.objects.Objects.idle_request_at.Goals as goal

pub returns-in_err-r-clause-alert : goal.returns-in_err-r-clause-alert
returns-in_err-r-clause-alert g c =
    passed_on c.from_residual.result c.in_err-r.field-0.0 c.from_residual.ensures.1
    ∙ sym (resting_refused c.args.request (shown_heap c.args.self.now) (sym c.in_err-r.ensures.alert))

pub returns-then-begun-clause-alert : goal.returns-then-begun-clause-alert
returns-then-begun-clause-alert g c =
    sym (resting_found c.args.request (shown_heap c.args.self.now) (request_at c.in_ok-r.r c.args.self.now.requests) c.in_ok-r.ensures.content
    (sym c.in_ok-r.ensures.alert) (sym c.is_under_way-begun.ensures ∙ c.if-begun.true))

pub returns-else-begun-clause-alert : goal.returns-else-begun-clause-alert
returns-else-begun-clause-alert g c =
    sym (resting_found c.args.request (shown_heap c.args.self.now) (request_at c.in_ok-r.r c.args.self.now.requests) c.in_ok-r.ensures.content
    (sym c.in_ok-r.ensures.alert) (sym c.is_under_way-begun.ensures ∙ c.if-begun.false))
