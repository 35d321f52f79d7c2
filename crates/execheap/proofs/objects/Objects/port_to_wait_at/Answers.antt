-- A port signals the task if it does by number.
use Rattle.std.proofs.Common.{ap, sym, ◌∙◌}
use Rattle.msgport.specs.{Port.wait_bit, Ports.port_at}
use Rattle.execheap.specs.Numbered.{shown_heap}
use Rattle.execheap.proofs.{PortAlerts.wait_found, PortAlerts.wait_refused, Passed.passed_on}
use Rattle.execheap.proofs.objects.Objects.port_to_wait_at.Goals as goal

pub returns-in_err-p-clause-alert : goal.returns-in_err-p-clause-alert
returns-in_err-p-clause-alert g c =
    passed_on c.from_residual.result c.in_err-p.field-0.0 c.from_residual.ensures.1
    ∙ sym (wait_refused c.args.task c.args.port (shown_heap c.args.self.now) (sym c.in_err-p.ensures.alert))

pub returns-in-Some-clause-alert : goal.returns-in-Some-clause-alert
returns-in-Some-clause-alert g c =
    sym (wait_found c.in_ok-p.ensures.known.sound c.args.task c.in_ok-p.p c.args.port c.in_ok-p.ensures.found (sym c.in_ok-p.ensures.alert) (ap (λ q. wait_bit c.args.task (port_at c.in_ok-p.p q)) (sym c.ports.ensures) ∙ sym c.in-Some.ensures.value))

pub returns-in-None-clause-alert : goal.returns-in-None-clause-alert
returns-in-None-clause-alert g c =
    sym (wait_found c.in_ok-p.ensures.known.sound c.args.task c.in_ok-p.p c.args.port c.in_ok-p.ensures.found (sym c.in_ok-p.ensures.alert) (ap (λ q. wait_bit c.args.task (port_at c.in_ok-p.p q)) (sym c.ports.ensures) ∙ sym c.in-None.ensures.value))
