-- The proof of `MemHeader::block_at`: the size and the tag of the block that begins at an address of the region.
use Rattle.std.proofs.Common.{sym, ap, subst, ◌∙◌, IsTrue}
use Rattle.memlist.specs.{Areas.Area, Blocks.block_at, Blocks.is_in}
use Rattle.memlist.proofs.Headers.{found_slot, found_odd}
use Rattle.memlist.proofs.header.MemHeader.block_at.Goals as goal

pub returns-then-address-eq0 : goal.returns-then-address-eq0
returns-then-address-eq0 c =
    let inside = subst (λ (a : Area). IsTrue (is_in a.region c.args.address)) (sym c.self.view_is) c.requires in
    c.block.ensures
    ∙ found_slot c.self.inside.region c.self.inside.slots.items c.self.inside.space c.self.invariant.0 c.args.address c.place_of-place.result c.index.result.now inside c.if-address-eq0.true c.place_of-place.ensures c.index.ensures
    ∙ ap (λ (a : Area). block_at c.args.address a.blocks) c.self.view_is

pub returns-else-address-eq0 : goal.returns-else-address-eq0
returns-else-address-eq0 c =
    sym (found_odd c.self.inside.region c.self.inside.slots.items c.self.inside.space c.self.invariant.0 c.args.address c.if-address-eq0.false) ∙ ap (λ (a : Area). block_at c.args.address a.blocks) c.self.view_is
