-- The object is freed if it is shown.
use Rattle.std.proofs.Common.{ap, ◌∙◌}
use Rattle.execmodel.specs.Memory.{freed}
use Rattle.execheap.proofs.heap.Heap.free_node.Goals as goal

pub returns-clause-next : goal.returns-clause-next
returns-clause-next g c = c.free_node.ensures ∙ ap (freed c.args.node) c.self.view_is
