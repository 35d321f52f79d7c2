-- A library that is loaded takes a fresh block with its tag, and those that are asked for memory for it leave a table
-- sound.
use Rattle.execlib.specs.Libraries.{library_to_open}
use Rattle.execheap.proofs.{Asking.lie_in, Asking.sound_open, Loaded.to_open_known}
use Rattle.execheap.proofs.table.Table.open_library.Goals as goal

pub open-requires : goal.open-requires
open-requires g c = record { blocks = lie_in c.self.invariant }

pub invariant_of-self : goal.invariant_of-self
invariant_of-self g c =
    let made = c.open.ensures in
    let name = c.args.name.now in
    sound_open c.self.invariant c.is_well_formed.ensures (library_to_open name c.args.version c.self.inside.libs)
    (to_open_known c.args.version c.self.inside.libs name) c.open.result made.answer c.open.new.memory c.open.new.self made.libraries made.memory
