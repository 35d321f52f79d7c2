-- Nothing lives, and there is no block.
use Rattle.std.proofs.Common.{map}
use Rattle.execlib.specs.Libraries.{description_of}
use Rattle.execheap.proofs.Unused.{sound_unused}
use Rattle.execheap.proofs.table.Table.new.Goals as goal

pub invariant_of-result : goal.invariant_of-result
invariant_of-result g c = rw (c.in_ok-memory.ensures, c.in_ok-pools.ensures, c.in_ok-libs.ensures)
    (sound_unused c.args.regions.now c.args.pool (map description_of c.args.libraries.now) c.args.asks c.requires.pool)
