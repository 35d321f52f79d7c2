-- The object is freed if it is shown.
use Rattle.std.proofs.Common.{ap, is_some, sym, subst, ◌∙◌}
use Rattle.execlist.specs.{Lists.home, Pool.slot}
use Rattle.iorequest.specs.{Request.is_under_way, Requests.request_at}
use Rattle.execmodel.specs.Memory.{freed}
use Rattle.execheap.specs.declared.tag.Kind.TheVariants as variant
use Rattle.execheap.specs.Numbered.{IsKnown, Numbered, message_of_request, places, shown_memory}
use Rattle.execheap.proofs.{KeptRequests.live_request, Made.freed_at, RequestCalls.not_refused, RequestsMade.request_freed_kept, RequestsMade.request_freed_shown}
use Rattle.execheap.proofs.objects.Objects.free_request.Goals as goal

pub delete-requires : goal.delete-requires
delete-requires g c =
    live_request c.self.invariant c.args.r (ap is_some (ap (λ s. slot (places variant.Request s) c.args.r) c.self.view_is ∙ c.requires.live))

pub invariant_of-self : goal.invariant_of-self
invariant_of-self g c =
    let free = c.free.ensures in
    let gone = freed_at c.self.view_is c.self.invariant free.sound free.memory variant.Request c.args.r c.args.address c.free.new.self c.requires.live free.next in
    request_freed_kept c.delete.new.self gone (ap (λ (s : Numbered). is_under_way (request_at c.args.r s.requests)) c.self.view_is ∙ c.requires.rests)
    (ap (λ (s : Numbered). home s.ports.places (message_of_request c.args.r s)) c.self.view_is ∙ c.requires.loose) (not_refused _ _ _ _ _ _ _ c.delete.ensures.answer c.unwrap.ensures c.delete.ensures.next)

pub returns : goal.returns
returns g c =
    let free = c.free.ensures in
    let gone = freed_at c.self.view_is c.self.invariant free.sound free.memory variant.Request c.args.r c.args.address c.free.new.self c.requires.live free.next in
    request_freed_shown c.delete.new.self gone (ap (λ (s : Numbered). is_under_way (request_at c.args.r s.requests)) c.self.view_is ∙ c.requires.rests)
    (ap (λ (s : Numbered). home s.ports.places (message_of_request c.args.r s)) c.self.view_is ∙ c.requires.loose) (not_refused _ _ _ _ _ _ _ c.delete.ensures.answer c.unwrap.ensures c.delete.ensures.next)
    (subst IsKnown (sym c.self.view_is) c.facts.ensures).ports
    ∙ ap (λ s. freed c.args.address (shown_memory s)) c.self.view_is
