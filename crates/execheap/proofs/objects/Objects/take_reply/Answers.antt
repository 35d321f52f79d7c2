-- The reply is taken out of the port that has it.
use Rattle.std.proofs.Common.{◌≡◌, ap, refl, sym, subst, ◌∙◌, IsSome}
use Rattle.execlist.specs.Lists.{home}
use Rattle.iorequest.specs.{declared.request.ReqState.TheVariants.Replied, Requests.is_request, Requests.request_at}
use Rattle.execheap.specs.Numbered.{IsKnown, Numbered, message_of_request}
use Rattle.execheap.proofs.{KeptPorts.not_refused, KeptRequests.kept_out, KeptRequests.request_queued}
use Rattle.execheap.proofs.objects.Objects.take_reply.Goals as goal

pub unwrap-requires : goal.unwrap-requires
unwrap-requires g c =
    let known = subst IsKnown (sym c.self.view_is) c.message_of-message.ensures.known in
    let lives = ap (λ (s : Numbered). is_request c.args.r s.requests) c.self.view_is ∙ c.requires.live in
    let is = c.message_of-message.ensures.value ∙ ap (message_of_request c.args.r) (sym c.self.view_is) in
    let queued = subst (λ (s : Numbered). (request_at c.args.r s.requests).state ≡ Replied → IsSome (home s.ports.places (message_of_request c.args.r s)))
    (sym c.self.view_is) c.requires.queued in
    rw (c.take_out.ensures.answer, request_queued known.sound c.args.r c.message_of-message.result lives (queued (sym c.state.ensures ∙ c.in-Replied.is)) is) refl

pub invariant_of-self : goal.invariant_of-self
invariant_of-self g c =
    let known = subst IsKnown (sym c.self.view_is) c.message_of-message.ensures.known in
    let lives = ap (λ (s : Numbered). is_request c.args.r s.requests) c.self.view_is ∙ c.requires.live in
    let is = c.message_of-message.ensures.value ∙ ap (message_of_request c.args.r) (sym c.self.view_is) in
    kept_out known.sound c.args.r lives c.message_of-message.result is c.take_out.new.self
    (not_refused _ _ _ _ _ _ _ c.take_out.ensures.answer c.unwrap.ensures c.take_out.ensures.next)
