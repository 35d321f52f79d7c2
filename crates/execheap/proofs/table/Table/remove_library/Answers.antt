-- A library that goes frees its own block.
use Rattle.std.proofs.Common.{ap, refl, ◌∙◌}
use Rattle.execlib.specs.Libraries.{is_loaded}
use Rattle.execheap.specs.Table.{Tabled}
use Rattle.execheap.proofs.LibraryTables.{library_block, sound_after, sound_removed}
use Rattle.execheap.proofs.table.Table.remove_library.Goals as goal

pub remove-requires-clause-block : goal.remove-requires-clause-block
remove-requires-clause-block g c =
    library_block c.self.invariant c.args.i (ap (λ (t : Tabled). is_loaded c.args.i t.libs) c.self.view_is ∙ c.requires)

pub invariant_of-self : goal.invariant_of-self
invariant_of-self g c =
    let remove = c.remove.ensures in
    sound_after c.self.invariant _
    (sound_removed c.self.invariant c.is_well_formed.ensures c.args.i (ap (λ (t : Tabled). is_loaded c.args.i t.libs) c.self.view_is ∙ c.requires))
    c.remove.new.memory c.remove.new.self refl refl remove.memory remove.libraries
