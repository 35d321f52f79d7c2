-- What lives has an address.
use Rattle.std.proofs.Common.{◌∙◌}
use Rattle.execheap.specs.declared.tag.Kind.TheVariants as variant
use Rattle.execheap.specs.Table.{pool_of}
use Rattle.execheap.proofs.Stepping.{shape_lives}
use Rattle.execheap.proofs.objects.Objects.address_of_port.Goals as goal

pub address_of-requires : goal.address_of-requires
address_of-requires g c =
    let s = c.args.self.now in
    shape_lives (pool_of variant.Port s.table) s.ports.ports (c.facts.ensures.sound.kept.in_step variant.Port) c.args.p ∙ c.requires
