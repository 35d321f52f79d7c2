-- The block of the object goes, and its number is free.
use Rattle.std.proofs.Common.{ap, ◌∙◌}
use Rattle.execlist.specs.Pool.{slot}
use Rattle.execheap.specs.Table.{Tabled, slots_of}
use Rattle.execheap.proofs.{Keeping.kept_freed, Matching.block_lives}
use Rattle.execheap.proofs.table.Table.free.Goals as goal

pub free_block-requires : goal.free_block-requires
free_block-requires g c =
    block_lives c.self.invariant c.args.kind c.args.number c.args.address
    (ap (λ (t : Tabled). slot (slots_of c.args.kind t) c.args.number) c.self.view_is ∙ c.requires)

pub invariant_of-self : goal.invariant_of-self
invariant_of-self g c =
    kept_freed c.self.invariant c.args.kind c.code.result c.code.ensures c.is_well_formed.ensures c.args.number c.args.address
    c.free_block.new.self c.index-self-code.result c.release.new.self
    (ap (λ (t : Tabled). slot (slots_of c.args.kind t) c.args.number) c.self.view_is ∙ c.requires) c.free_block.ensures c.release.ensures
