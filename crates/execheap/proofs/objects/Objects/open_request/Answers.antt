-- The request is another one that is idle.
use Rattle.std.proofs.Common.{ap, refl, ◌∙◌}
use Rattle.iorequest.specs.{Request.is_under_way, Requests.is_request, Requests.request_at}
use Rattle.execheap.specs.Numbered.{Numbered}
use Rattle.execheap.proofs.KeptRequests.{kept_set}
use Rattle.execheap.proofs.objects.Objects.open_request.Goals as goal

pub invariant_of-self : goal.invariant_of-self
invariant_of-self g c =
    kept_set c.self.invariant c.args.r
    (ap (λ (s : Numbered). is_request c.args.r s.requests) c.self.view_is ∙ c.requires.live) _
    (ap (λ (s : Numbered). is_under_way (request_at c.args.r s.requests)) c.self.view_is ∙ c.requires.rests)
    (ap (λ (s : Numbered). is_under_way (request_at c.args.r s.requests)) c.self.view_is ∙ c.requires.rests)
    refl _ c.open_device.ensures.next
