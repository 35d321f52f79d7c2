-- The reply of a request is in a port if it is by number.
use Rattle.std.proofs.Common.{sym, ◌∙◌}
use Rattle.execheap.specs.Numbered.{shown_heap}
use Rattle.execheap.proofs.{RequestAlerts.delete_found, RequestAlerts.delete_refused, RequestAlerts.reply_shown, Passed.passed_on}
use Rattle.execheap.proofs.objects.Objects.request_to_delete.Goals as goal

pub returns-in_err-r-clause-alert : goal.returns-in_err-r-clause-alert
returns-in_err-r-clause-alert g c =
    passed_on c.from_residual.result c.in_err-r.field-0.0 c.from_residual.ensures.1
    ∙ sym (delete_refused c.args.request (shown_heap c.args.self.now) (sym c.in_err-r.ensures.alert))

pub returns-then-queued-clause-alert : goal.returns-then-queued-clause-alert
returns-then-queued-clause-alert g c =
    let f = c.in_ok-r.ensures.known in
    sym (delete_found c.args.request (shown_heap c.args.self.now) (sym c.in_ok-r.ensures.alert)
    (reply_shown f.sound f.ports c.in_ok-r.r c.args.request c.in_ok-r.ensures.found ∙ sym c.is_reply_queued-queued.ensures.value ∙ c.if-queued.true))

pub returns-else-queued-clause-alert : goal.returns-else-queued-clause-alert
returns-else-queued-clause-alert g c =
    let f = c.in_ok-r.ensures.known in
    sym (delete_found c.args.request (shown_heap c.args.self.now) (sym c.in_ok-r.ensures.alert)
    (reply_shown f.sound f.ports c.in_ok-r.r c.args.request c.in_ok-r.ensures.found ∙ sym c.is_reply_queued-queued.ensures.value ∙ c.if-queued.false))
