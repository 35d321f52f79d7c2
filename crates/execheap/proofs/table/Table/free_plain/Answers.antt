-- A plain block that goes is not an object.
use Rattle.execheap.proofs.Plain.{sound_plain_freed}
use Rattle.execheap.proofs.table.Table.free_plain.Goals as goal

pub invariant_of-self : goal.invariant_of-self
invariant_of-self g c =
    let freed = c.free_mem.ensures in
    sound_plain_freed c.self.invariant c.is_well_formed.ensures c.free_mem.new.self c.args.address c.args.size c.free_mem.result
    freed.variant freed.ok freed.err
