-- A request begins there if the blocks have a number of one.
use Rattle.std.proofs.Common.{ap, is_some, sym, ◌∙◌}
use Rattle.execmodel.specs.{State.Memory, Requests.is_request_at}
use Rattle.execheap.proofs.RequestAlerts.{request_at_shown}
use Rattle.execheap.proofs.heap.Heap.is_request.Goals as goal

pub returns : goal.returns
returns g c =
    c.is_some.ensures ∙ ap is_some c.number_at.ensures.value ∙ sym (request_at_shown c.self.inside.objects c.args.request)
    ∙ ap (λ (m : Memory). is_request_at c.args.request m.heap) c.self.view_is
