-- A port is public if it is by number.
use Rattle.std.proofs.Common.{ap, sym, ◌∙◌}
use Rattle.msgport.specs.Ports.{is_public}
use Rattle.execheap.specs.Numbered.{shown_memory}
use Rattle.execheap.proofs.{Public.public_found, Public.public_refused, Passed.passed_on}
use Rattle.execheap.proofs.objects.Objects.public_port_at.Goals as goal

pub returns-in_err-p-clause-alert : goal.returns-in_err-p-clause-alert
returns-in_err-p-clause-alert g c =
    passed_on c.from_residual.result c.in_err-p.field-0.0 c.from_residual.ensures.1
    ∙ sym (public_refused c.args.port (shown_memory c.args.self.now) (sym c.in_err-p.ensures.alert))

pub returns-then-listed-clause-alert : goal.returns-then-listed-clause-alert
returns-then-listed-clause-alert g c =
    let f = c.in_ok-p.ensures.known in
    sym (public_found f.sound f.ports c.in_ok-p.p c.args.port c.in_ok-p.ensures.found (sym c.in_ok-p.ensures.alert)
    (ap (is_public c.in_ok-p.p) (sym c.ports.ensures) ∙ sym c.is_public-listed.ensures ∙ c.if-listed.true))

pub returns-else-listed-clause-alert : goal.returns-else-listed-clause-alert
returns-else-listed-clause-alert g c =
    let f = c.in_ok-p.ensures.known in
    sym (public_found f.sound f.ports c.in_ok-p.p c.args.port c.in_ok-p.ensures.found (sym c.in_ok-p.ensures.alert)
    (ap (is_public c.in_ok-p.p) (sym c.ports.ensures) ∙ sym c.is_public-listed.ensures ∙ c.if-listed.false))
