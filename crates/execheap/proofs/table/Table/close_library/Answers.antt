-- A library that goes frees its own block.
use Rattle.std.proofs.Common.{ap, ◌∙◌}
use Rattle.execlib.specs.Libraries.{close_fault, is_loaded}
use Rattle.execheap.specs.Table.{Tabled}
use Rattle.execheap.proofs.LibraryTables.{library_block, sound_after_close}
use Rattle.execheap.proofs.table.Table.close_library.Goals as goal

pub close-requires-clause-block : goal.close-requires-clause-block
close-requires-clause-block g c =
    library_block c.self.invariant c.args.i (ap (λ (t : Tabled). is_loaded c.args.i t.libs) c.self.view_is ∙ c.requires.loaded)

pub invariant_of-self : goal.invariant_of-self
invariant_of-self g c =
    let close = c.close.ensures in
    sound_after_close c.self.invariant c.is_well_formed.ensures c.args.i
    (ap (λ (t : Tabled). is_loaded c.args.i t.libs) c.self.view_is ∙ c.requires.loaded)
    (ap (λ (t : Tabled). close_fault c.args.i t.libs) c.self.view_is ∙ c.requires.open)
    c.close.new.memory c.close.new.self close.memory close.libraries
