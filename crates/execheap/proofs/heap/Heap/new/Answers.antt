-- No block is shown, the pool is as large as that of its numbers, and no request waits.
use Rattle.std.proofs.Common.{map, ap, ◌∙◌}
use Rattle.execlib.specs.Libraries.{description_of}
use Rattle.execheap.specs.Numbered.{shown_memory}
use Rattle.execheap.proofs.Empty.{unused_shown}
use Rattle.execheap.proofs.heap.Heap.new.Goals as goal

pub returns : goal.returns
returns g c = ap shown_memory c.in_ok-objects.ensures ∙ unused_shown c.args.regions.now c.args.pool c.args.tasks (map description_of c.args.libraries.now) c.args.asks c.args.tick_micros
