-- The message is asked for first, and then its reply port.
use Rattle.std.proofs.Common.{Some, ◌≡◌, ap, sym, ◌∙◌}
use Rattle.execmodel.specs.Ports.{content_of, reply_port_alert}
use Rattle.msgport.specs.Ports.{MessagePorts, message_at}
use Rattle.execheap.specs.Numbered.{shown_heap}
use Rattle.execheap.proofs.{PortAlerts.reply_by_loose, PortAlerts.reply_by_port, PortAlerts.reply_of, Passed.passed_on}
use Rattle.execheap.proofs.objects.Objects.to_reply.Goals as goal

pub returns-in_err-m-clause-alert : goal.returns-in_err-m-clause-alert
returns-in_err-m-clause-alert g c =
    passed_on c.from_residual.result c.in_err-m.field-0.0 c.from_residual.ensures.1
    ∙ sym (reply_by_loose c.args.message (shown_heap c.args.self.now) (sym c.in_err-m.ensures.alert))

pub returns-in_err-p-clause-alert : goal.returns-in_err-p-clause-alert
returns-in_err-p-clause-alert g c =
    let heap = shown_heap c.args.self.now in
    passed_on c.from_residual-in_err-p.result c.in_err-p.field-0.0 c.from_residual-in_err-p.ensures.1
    ∙ let reply : c.reply_port.result ≡ (content_of c.args.message heap).reply =
    c.reply_port.ensures ∙ ap (λ (q : MessagePorts). (message_at c.in_ok-m.m q).reply) c.ports.ensures
    ∙ sym (reply_of c.in_ok-m.ensures.known.sound c.in_ok-m.m c.args.message c.in_ok-m.ensures.found) in
    c.in_err-p.ensures.alert ∙ ap (λ r. reply_port_alert r heap) reply ∙ sym (reply_by_port c.args.message heap (sym c.in_ok-m.ensures.alert))

pub returns-clause-alert : goal.returns-clause-alert
returns-clause-alert g c =
    let heap = shown_heap c.args.self.now in
    let reply : c.reply_port.result ≡ (content_of c.args.message heap).reply =
    c.reply_port.ensures ∙ ap (λ (q : MessagePorts). (message_at c.in_ok-m.m q).reply) c.ports.ensures
    ∙ sym (reply_of c.in_ok-m.ensures.known.sound c.in_ok-m.m c.args.message c.in_ok-m.ensures.found) in
    c.in_ok-p.ensures.alert ∙ ap (λ r. reply_port_alert r heap) reply ∙ sym (reply_by_port c.args.message heap (sym c.in_ok-m.ensures.alert))

pub returns-clause-none : goal.returns-clause-none
returns-clause-none g c = λ none.
    reply_of c.in_ok-m.ensures.known.sound c.in_ok-m.m c.args.message c.in_ok-m.ensures.found
    ∙ sym (c.reply_port.ensures ∙ ap (λ (q : MessagePorts). (message_at c.in_ok-m.m q).reply) c.ports.ensures)
    ∙ c.in_ok-p.ensures.none none

pub returns-clause-reply : goal.returns-clause-reply
returns-clause-reply g c = λ p is.
    c.in_ok-p.ensures.found p is
    ∙ ap Some (c.reply_port.ensures ∙ ap (λ (q : MessagePorts). (message_at c.in_ok-m.m q).reply) c.ports.ensures
    ∙ sym (reply_of c.in_ok-m.ensures.known.sound c.in_ok-m.m c.args.message c.in_ok-m.ensures.found))

pub returns-clause-some : goal.returns-clause-some
returns-clause-some g c = λ p is none.
    c.in_ok-p.ensures.some p is
    (c.reply_port.ensures ∙ ap (λ (q : MessagePorts). (message_at c.in_ok-m.m q).reply) c.ports.ensures
    ∙ sym (reply_of c.in_ok-m.ensures.known.sound c.in_ok-m.m c.args.message c.in_ok-m.ensures.found) ∙ none)
