-- The proof of `MemHeader::free`: frees the block that begins at an address.
use Rattle.std.proofs.Common.{◌≡◌, ◌-◌, ◌/◌, ◌<◌, List, Some, length, set, arith, ap, subst, sym, take, ◌∙◌}
use Rattle.memlist.specs.{declared.slot.Slot.Slot, Areas.Area, Areas.empty_slot, Areas.entries, Blocks.block_at, Blocks.freed, Chain.IsLastBelow, Descent.last_left, Regions.region_end}
use Rattle.memlist.proofs.Headers.{IsInside, IsWithin, Keeps, live_shown, live_inside, live_within, lives, place_within, round_freed, keeps_freed}
use Rattle.memlist.proofs.header.MemHeader.free.Goals.{After-index, After-join, After-self}
use Rattle.memlist.proofs.{Descending.live-left, Descending.unit_of, Resets.unused_freed}
use Rattle.memlist.proofs.header.MemHeader.free.Goals as goal

module _ (c : After-self) where
  inside : IsInside c.self.inside.region c.args.address
  inside = live_inside c.self.inside.region c.self.inside.slots.items c.self.inside.space c.self.invariant.0 c.args.address
      (live_shown c.self.inside.region c.self.inside.slots.items _ c.args.address c.self.view_is c.requires)

  -- its unit has a slot
  within : (c.args.address - c.self.inside.region.base) / 8 < length c.self.inside.slots.items
  within = place_within c.self.inside.region c.self.inside.slots.items c.args.address c.self.invariant.0.units inside.low inside.high

module _ (c : After-index) where
  -- which says what the block is
  found : block_at c.args.address (entries c.self.inside.region.base c.self.inside.slots.items) ≡ Some (c.index.result.now.size, c.index.result.now.tag)
  found =
      lives c.self.inside.region c.self.inside.slots.items c.self.inside.space c.self.invariant.0 c.args.address c.place_of-place.result
      (live_shown c.self.inside.region c.self.inside.slots.items _ c.args.address c.self.view_is c.requires) c.place_of-place.ensures c.index.result.now c.index.ensures

  lies : IsWithin c.self.inside.region.base (region_end c.self.inside.region) c.args.address c.index.result.now.size
  lies = live_within c.self.inside.region c.self.inside.slots.items c.self.inside.space c.self.invariant.0 c.args.address _ _ found

module _ (c : After-join)
    (found : block_at c.args.address (entries c.self.inside.region.base c.self.inside.slots.items) ≡ Some (c.index.result.now.size, c.index.result.now.tag)) where
  kept : Keeps c.self.inside.region (set c.self.inside.slots.items c.place_of-place.result empty_slot) c.join.new.self
      (freed c.args.address (entries c.self.inside.region.base c.self.inside.slots.items))
  kept =
      keeps_freed c.self.inside.region c.self.inside.slots.items c.self.inside.space c.self.invariant.0 c.args.address _ _ c.place_of-place.result
      c.join.new.self found c.place_of-place.ensures c.join.ensures

pub place_of-place-requires : goal.place_of-place-requires
place_of-place-requires c = (inside (goal.at.place_of-place-requires c).After-self).low

pub index-requires : goal.index-requires
index-requires c = omega (arith, within (goal.at.index-requires c).After-self)

pub index_mut-requires : goal.index_mut-requires
index_mut-requires c = omega (arith, within (goal.at.index_mut-requires c).After-self)

pub chunk_below-before-requires-clause-units : goal.chunk_below-before-requires-clause-units
chunk_below-before-requires-clause-units c = omega (arith, within (goal.at.chunk_below-before-requires-clause-units c).After-self)

pub chunk_below-before-requires-clause-address : goal.chunk_below-before-requires-clause-address
chunk_below-before-requires-clause-address c =
    unit_of c.self.inside.region c.self.inside.slots.items c.self.inside.space c.self.invariant.0 c.args.address c.place_of-place.result _ _ (found (goal.at.chunk_below-before-requires-clause-address c).After-index)
    c.place_of-place.ensures

pub chunk_below-before-requires-clause-left : goal.chunk_below-before-requires-clause-left
chunk_below-before-requires-clause-left c =
    subst (λ (slots : List Slot). IsLastBelow c.args.address c.self.inside.space.gaps (last_left c.self.inside.region.base (take c.place_of-place.result slots) c.args.address)) (sym c.deref.ensures.value)
    (live-left c.self.inside.region c.self.inside.slots.items c.self.inside.space c.self.invariant.0 c.args.address c.place_of-place.result c.index.result.now
    (found (goal.at.chunk_below-before-requires-clause-left c).After-index) c.index.ensures c.place_of-place.ensures)

pub join-requires-clause-around : goal.join-requires-clause-around
join-requires-clause-around c =
    round_freed c.self.inside.region c.self.inside.slots.items c.self.inside.space c.self.invariant.0 c.args.address _ _ (found (goal.at.join-requires-clause-around c).After-index)

pub join-requires-clause-low : goal.join-requires-clause-low
join-requires-clause-low c = omega (arith, (lies (goal.at.join-requires-clause-low c).After-index).low, c.self.invariant.0.base)

pub join-requires-clause-place : goal.join-requires-clause-place
join-requires-clause-place c = (lies (goal.at.join-requires-clause-place c).After-index).place

pub join-requires-clause-some : goal.join-requires-clause-some
join-requires-clause-some c = (lies (goal.at.join-requires-clause-some c).After-index).some

pub join-requires-clause-whole : goal.join-requires-clause-whole
join-requires-clause-whole c = (lies (goal.at.join-requires-clause-whole c).After-index).whole

pub join-requires-clause-high : goal.join-requires-clause-high
join-requires-clause-high c = omega (arith, (lies (goal.at.join-requires-clause-high c).After-index).high, c.self.invariant.0.end)

pub invariant_of-self : goal.invariant_of-self
invariant_of-self c = ((kept (goal.at.invariant_of-self c).After-join (found (goal.at.invariant_of-self c).After-index)).header, unused_freed c.self.inside.unused c.self.inside.slots.items c.place_of-place.result c.self.invariant.1)

pub returns-clause-freed : goal.returns-clause-freed
returns-clause-freed c =
    ap (λ bs. let area : Area = record { region = c.self.inside.region; blocks = bs } in area) (kept (goal.at.returns-clause-freed c).After-join (found (goal.at.returns-clause-freed c).After-index)).shown
    ∙ ap (λ (a : Area). let area : Area = record { region = a.region; blocks = freed c.args.address a.blocks } in area) c.self.view_is

pub returns-clause-laid : goal.returns-clause-laid
returns-clause-laid c = (kept (goal.at.returns-clause-laid c).After-join (found (goal.at.returns-clause-laid c).After-index)).header.laid
