-- A request that is in progress is done, and waits no more.
use Rattle.std.proofs.Common.{ap, sym, subst, ◌∙◌, negsuc}
use Rattle.iorequest.specs.{Request.reply_port, Requests.is_request, Requests.request_at}
use Rattle.execheap.specs.Numbered.{IsKnown, Numbered, message_of_request}
use Rattle.execheap.proofs.KeptRequests.{kept_ended, port_lives}
use Rattle.execheap.proofs.objects.Objects.abort_request.Goals as goal

pub finish-requires-clause-port : goal.finish-requires-clause-port
finish-requires-clause-port g c =
    let known = subst IsKnown (sym c.self.view_is) c.message_of-message.ensures.known in
    port_lives known.sound (reply_port (request_at c.args.r c.self.inside.requests))

pub invariant_of-self : goal.invariant_of-self
invariant_of-self g c =
    let known = subst IsKnown (sym c.self.view_is) c.message_of-message.ensures.known in
    let lives = ap (λ (s : Numbered). is_request c.args.r s.requests) c.self.view_is ∙ c.requires.live in
    let is = c.message_of-message.ensures.value ∙ ap (message_of_request c.args.r) (sym c.self.view_is) in
    kept_ended known.sound c.args.r lives c.message_of-message.result is (negsuc 1)
    c.finish.new.requests c.finish.new.ports c.cancel.new.self c.finish.ensures.requests c.finish.ensures.ports c.cancel.ensures
