-- A block fits if it is shown to fit, and is shown where it is put.
use Rattle.std.proofs.Common.{ap, ◌∙◌}
use Rattle.execmodel.specs.{State.Plain, Memory.place_for, Memory.placed, LowMemory.after_asking}
use Rattle.execheap.proofs.heap.Heap.alloc_mem.Goals as goal

pub returns-clause-address : goal.returns-clause-address
returns-clause-address g c =
    c.allocate.ensures.address ∙ ap (λ m. place_for c.args.size c.args.reqs (after_asking c.args.size c.args.reqs m)) c.self.view_is

pub returns-clause-next : goal.returns-clause-next
returns-clause-next g c =
    c.allocate.ensures.next ∙ ap (λ m. placed c.args.size Plain c.allocate.result (after_asking c.args.size c.args.reqs m)) c.self.view_is
