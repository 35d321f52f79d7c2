-- A message that has no port by number is in none, and one that has is.
use Rattle.std.proofs.Common.{ap, sym, ◌∙◌}
use Rattle.msgport.specs.Ports.{is_linked}
use Rattle.execheap.specs.Numbered.{shown_heap}
use Rattle.execheap.proofs.{PortAlerts.loose_by_handle, PortAlerts.loose_found, Passed.passed_on}
use Rattle.execheap.proofs.objects.Objects.unqueued_message_at.Goals as goal

pub returns-in_err-m-clause-alert : goal.returns-in_err-m-clause-alert
returns-in_err-m-clause-alert g c =
    passed_on c.from_residual.result c.in_err-m.field-0.0 c.from_residual.ensures.1
    ∙ sym (loose_by_handle c.args.message (shown_heap c.args.self.now) (sym c.in_err-m.ensures.alert))

pub returns-then-linked-clause-alert : goal.returns-then-linked-clause-alert
returns-then-linked-clause-alert g c =
    let f = c.in_ok-m.ensures.known in
    sym (loose_found f.sound f.ports c.in_ok-m.m c.args.message c.in_ok-m.ensures.found (sym c.in_ok-m.ensures.alert) (ap (is_linked c.in_ok-m.m) (sym c.ports.ensures) ∙ sym c.is_linked-linked.ensures ∙ c.if-linked.true))

pub returns-else-linked-clause-alert : goal.returns-else-linked-clause-alert
returns-else-linked-clause-alert g c =
    let f = c.in_ok-m.ensures.known in
    sym (loose_found f.sound f.ports c.in_ok-m.m c.args.message c.in_ok-m.ensures.found (sym c.in_ok-m.ensures.alert) (ap (is_linked c.in_ok-m.m) (sym c.ports.ensures) ∙ sym c.is_linked-linked.ensures ∙ c.if-linked.false))
