-- A port is public if it is by number; a priority of eight bits is one.
use Rattle.std.proofs.Common.{rules, true, ◌≡◌, ap, sym, ◌∙◌}
use Rattle.execmodel.specs.Tasks.{is_priority}
use Rattle.msgport.specs.Ports.{is_public}
use Rattle.execheap.specs.Numbered.{shown_memory}
use Rattle.execheap.proofs.{Public.private_found, Public.private_refused, Passed.passed_on}
use Rattle.execheap.proofs.objects.Objects.private_port_at.Goals as goal

pub returns-in_err-p-clause-alert : goal.returns-in_err-p-clause-alert
returns-in_err-p-clause-alert g c =
    passed_on c.from_residual.result c.in_err-p.field-0.0 c.from_residual.ensures.1
    ∙ sym (private_refused c.args.port (shown_memory c.args.self.now) (sym c.in_err-p.ensures.alert) c.args.pri)

pub returns-then-public-clause-alert : goal.returns-then-public-clause-alert
returns-then-public-clause-alert g c =
    let f = c.in_ok-p.ensures.known in
    let fits : is_priority c.args.pri ≡ true = search rules in
    sym (private_found f.sound f.ports c.in_ok-p.p c.args.port c.in_ok-p.ensures.found (sym c.in_ok-p.ensures.alert) c.args.pri fits
    (ap (is_public c.in_ok-p.p) (sym c.ports.ensures) ∙ sym c.is_public-public.ensures ∙ c.if-public.true))

pub returns-else-public-clause-alert : goal.returns-else-public-clause-alert
returns-else-public-clause-alert g c =
    let f = c.in_ok-p.ensures.known in
    let fits : is_priority c.args.pri ≡ true = search rules in
    sym (private_found f.sound f.ports c.in_ok-p.p c.args.port c.in_ok-p.ensures.found (sym c.in_ok-p.ensures.alert) c.args.pri fits
    (ap (is_public c.in_ok-p.p) (sym c.ports.ensures) ∙ sym c.is_public-public.ensures ∙ c.if-public.false))
