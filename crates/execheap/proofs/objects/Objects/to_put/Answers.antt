-- The port is asked for first, and then the message.
use Rattle.std.proofs.Common.{sym, ◌∙◌}
use Rattle.execheap.specs.Numbered.{shown_heap}
use Rattle.execheap.proofs.{PortAlerts.put_by_message, PortAlerts.put_by_port, Passed.passed_on}
use Rattle.execheap.proofs.objects.Objects.to_put.Goals as goal

pub returns-in_err-p-clause-alert : goal.returns-in_err-p-clause-alert
returns-in_err-p-clause-alert g c =
    passed_on c.from_residual.result c.in_err-p.field-0.0 c.from_residual.ensures.1
    ∙ sym (put_by_port c.args.message (shown_heap c.args.self.now) c.args.port (sym c.in_err-p.ensures.alert))

pub returns-in_err-m-clause-alert : goal.returns-in_err-m-clause-alert
returns-in_err-m-clause-alert g c =
    passed_on c.from_residual-in_err-m.result c.in_err-m.field-0.0 c.from_residual-in_err-m.ensures.1
    ∙ c.in_err-m.ensures.alert ∙ sym (put_by_message c.args.message (shown_heap c.args.self.now) c.args.port (sym c.in_ok-p.ensures.alert))

pub returns-clause-alert : goal.returns-clause-alert
returns-clause-alert g c =
    c.in_ok-m.ensures.alert ∙ sym (put_by_message c.args.message (shown_heap c.args.self.now) c.args.port (sym c.in_ok-p.ensures.alert))
