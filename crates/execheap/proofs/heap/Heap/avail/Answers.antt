-- As much is free as is shown to be.
use Rattle.std.proofs.Common.{ap, sym, ◌∙◌}
use Rattle.memlist.specs.Fit.{avail}
use Rattle.execmodel.specs.{State.Memory, Memory.extents}
use Rattle.execheap.proofs.Blocks.{avail_shown}
use Rattle.execheap.proofs.heap.Heap.avail.Goals as goal

pub returns : goal.returns
returns g c =
    c.available.ensures ∙ sym (avail_shown c.self.inside.objects c.args.reqs) ∙ ap (λ (m : Memory). avail m.regions (extents m.heap) c.args.reqs) c.self.view_is
