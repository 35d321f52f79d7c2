-- The gaps that blocks by number leave are those that blocks by address leave.
use Rattle.std.proofs.Common.{ap, sym, ◌∙◌, slice_get}
use Rattle.memlist.specs.Readers.{gap_from as first_from}
use Rattle.execheap.specs.Queues.{gap_from}
use Rattle.execheap.proofs.Blocks.{gaps_shown}
use Rattle.execheap.proofs.heap.Heap.gap_from.Goals as goal

pub returns : goal.returns
returns g c =
    let s = c.self.inside.objects in
    c.gap_from.ensures ∙ ap (first_from c.args.address) (sym (gaps_shown s (slice_get s.table.memory.regions c.args.k)))
    ∙ ap (gap_from c.args.k c.args.address) c.self.view_is
