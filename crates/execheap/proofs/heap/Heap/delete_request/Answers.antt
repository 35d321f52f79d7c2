-- The object is freed if it is shown.
use Rattle.std.proofs.Common.{ap, ◌∙◌}
use Rattle.execmodel.specs.Memory.{freed}
use Rattle.execheap.proofs.heap.Heap.delete_request.Goals as goal

pub returns-clause-next : goal.returns-clause-next
returns-clause-next g c = c.free_request.ensures ∙ ap (freed c.args.request) c.self.view_is
