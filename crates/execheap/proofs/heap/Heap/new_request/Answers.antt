-- The object is made if it is shown to fit, and is shown where it is made.
use Rattle.std.proofs.Common.{ap, ◌∙◌}
use Rattle.iorequest.specs.Request.{idle_request}
use Rattle.execmodel.specs.{State.Request, Requests.is_request, Memory.placed, LowMemory.after_asking_for_object, Objects.place_for_object}
use Rattle.execheap.proofs.heap.Heap.new_request.Goals as goal

pub returns-clause-address : goal.returns-clause-address
returns-clause-address g c = c.make_request.ensures.address ∙ ap (λ m. place_for_object is_request 40 (after_asking_for_object is_request 40 m)) c.self.view_is

pub returns-clause-next : goal.returns-clause-next
returns-clause-next g c = c.make_request.ensures.next ∙ ap (λ m. placed 40 (Request (idle_request c.args.port)) c.make_request.result (after_asking_for_object is_request 40 m)) c.self.view_is
