-- A reply port is none, or begins there.
use Rattle.std.proofs.Common.{sym, ◌∙◌}
use Rattle.execheap.specs.Numbered.{shown_heap}
use Rattle.execheap.proofs.{PortAlerts.reply_port_none, PortAlerts.reply_port_some, Passed.passed_on}
use Rattle.execheap.proofs.objects.Objects.reply_port_at.Goals as goal

pub returns-then-reply-eq0-clause-alert : goal.returns-then-reply-eq0-clause-alert
returns-then-reply-eq0-clause-alert g c = sym (reply_port_none c.args.reply (shown_heap c.args.self.now) c.if-reply-eq0.true)

pub returns-clause-alert : goal.returns-clause-alert
returns-clause-alert g c = c.in_ok-port_at.ensures.alert ∙ sym (reply_port_some c.args.reply (shown_heap c.args.self.now) c.if-reply-eq0.false)

pub returns-in_err-port_at-clause-alert : goal.returns-in_err-port_at-clause-alert
returns-in_err-port_at-clause-alert g c =
    passed_on c.from_residual.result c.in_err-port_at.field-0.0 c.from_residual.ensures.1
    ∙ c.in_err-port_at.ensures.alert ∙ sym (reply_port_some c.args.reply (shown_heap c.args.self.now) c.if-reply-eq0.false)
