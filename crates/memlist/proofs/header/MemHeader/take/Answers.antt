-- The proof of `MemHeader::take`: puts a block at the front of the lowest gap that has room for it, which is the one
-- after the chunk at an address, or the first if that is 0; and answers the block's address.
use Rattle.std.proofs.Common.{List, ◌≡◌, ◌+◌, ◌-◌, ◌/◌, ◌<◌, ◌++◌, length, arith, set, sym, ap, subst, ◌∙◌, IfSome, nat_cmp}
use Rattle.std.specs.FinMap.{put}
use Rattle.memlist.specs.{declared.gap.Gap.Gap, declared.slot.Slot.Slot, Areas.Area, Areas.IsHeader, Areas.entries, Blocks.stretch, Blocks.with_block, Chain.IsSpot, Chain.Space, Fit.lowest_gap, Regions.region_end}
use Rattle.memlist.proofs.{Headers.IsGapWithin, Headers.Keeps, Headers.gaps_shown, Headers.keeps_taken, Headers.place_within, Headers.reach_region, Headers.spot_within, Resets.unused_put, header.MemHeader.take.Goals.After-place_of-place, header.MemHeader.take.Goals.After-self}
use Rattle.memlist.proofs.header.MemHeader.take.Goals as goal

module _ (c : After-self) where
  -- the gap, among those of the space
  spot : IsSpot c.args.size c.self.inside.space.gaps c.args.before
  spot =
      subst (λ (gaps : List Gap). IsSpot c.args.size gaps c.args.before)
      (sym (gaps_shown c.self.inside.region c.self.inside.slots.items c.self.inside.space _ c.self.invariant.0 c.self.view_is)) c.requires.fits

  lies : IsGapWithin c.self.inside.region.base (region_end c.self.inside.region) spot.gap
  lies = spot_within c.self.inside.region c.self.inside.slots.items c.self.inside.space c.self.invariant.0 c.args.size c.args.before spot

module _ (c : After-place_of-place) (spot : IsSpot c.args.size c.self.inside.space.gaps c.args.before) where
  at : c.take-address.result ≡ spot.gap.address
  at = (c.take-address.ensures spot).0

  unit : c.place_of-place.result ≡ (spot.gap.address - c.self.inside.region.base) / 8
  unit = c.place_of-place.ensures ∙ ap (λ a. (a - c.self.inside.region.base) / 8) at

  kept : Keeps c.self.inside.region (set c.self.inside.slots.items c.place_of-place.result (record { size = c.args.size; tag = c.args.tag }))
      (record c.self.inside.space { gaps = spot.below ++ (stretch (spot.gap.address + c.args.size) (spot.gap.address + spot.gap.size) ++ spot.above) })
      (put nat_cmp spot.gap.address (c.args.size, c.args.tag) (entries c.self.inside.region.base c.self.inside.slots.items))
  kept =
      keeps_taken c.self.inside.region c.self.inside.slots.items c.self.inside.space c.self.invariant.0 c.args.before c.args.size c.args.tag
      c.place_of-place.result spot c.requires.some c.requires.whole unit

  within : c.place_of-place.result < length c.self.inside.slots.items
  within =
      let w = spot_within c.self.inside.region c.self.inside.slots.items c.self.inside.space c.self.invariant.0 c.args.size c.args.before spot in
      omega (arith, unit, place_within c.self.inside.region c.self.inside.slots.items spot.gap.address c.self.invariant.0.units w.low (omega (arith, w.high, w.some)))

pub overflow_cast-size : goal.overflow_cast-size
overflow_cast-size c = omega (arith, (lies (goal.at.overflow_cast-size c).After-self).high, (spot (goal.at.overflow_cast-size c).After-self).fits, reach_region c.self.inside.region c.self.invariant.0.in_reach)

pub take-address-requires-clause-spot : goal.take-address-requires-clause-spot
take-address-requires-clause-spot c = spot (goal.at.take-address-requires-clause-spot c).After-self

pub place_of-place-requires : goal.place_of-place-requires
place_of-place-requires c = omega (arith, (c.take-address.ensures (spot (goal.at.place_of-place-requires c).After-self)).0, (lies (goal.at.place_of-place-requires c).After-self).low)

pub index_mut-requires : goal.index_mut-requires
index_mut-requires c = omega (arith, within (goal.at.index_mut-requires c).After-place_of-place (spot (goal.at.index_mut-requires c).After-self))

pub invariant_of-self : goal.invariant_of-self
invariant_of-self c =
    let long = within (goal.at.invariant_of-self c).After-place_of-place (spot (goal.at.invariant_of-self c).After-self) in (
      subst (λ (s : Space). IsHeader c.self.inside.region (set c.self.inside.slots.items c.place_of-place.result (let slot : Slot = record { size = c.args.size; tag = c.args.tag } in slot)) s) (sym (c.take-address.ensures (spot (goal.at.invariant_of-self c).After-self)).1) (kept (goal.at.invariant_of-self c).After-place_of-place (spot (goal.at.invariant_of-self c).After-self)).header,
      unused_put c.self.inside.unused c.max-unused.result c.self.inside.slots.items c.place_of-place.result _ c.self.invariant.1
          (omega (arith, c.max-unused.ensures)) (omega (arith, c.max-unused.ensures)) (omega (arith, c.max-unused.ensures, c.self.invariant.1.inside, long)),
    )

pub returns-clause-front : goal.returns-clause-front
returns-clause-front c =
    subst (λ (gaps : List Gap). IfSome (lowest_gap c.args.size gaps) (λ gap. c.take-address.result ≡ gap.address))
    (gaps_shown c.self.inside.region c.self.inside.slots.items c.self.inside.space _ c.self.invariant.0 c.self.view_is)
    (subst (λ o. IfSome o (λ gap. c.take-address.result ≡ gap.address)) (sym (spot (goal.at.returns-clause-front c).After-self).lowest) (at (goal.at.returns-clause-front c).After-place_of-place (spot (goal.at.returns-clause-front c).After-self)))

pub returns-clause-taken : goal.returns-clause-taken
returns-clause-taken c =
    ap (λ bs. let area : Area = record { region = c.self.inside.region; blocks = bs } in area) (kept (goal.at.returns-clause-taken c).After-place_of-place (spot (goal.at.returns-clause-taken c).After-self)).shown
    ∙ ap (λ (a : Area). let area : Area = record { region = a.region; blocks = with_block (spot (goal.at.returns-clause-taken c).After-self).gap.address c.args.size c.args.tag a.blocks } in area) c.self.view_is
    ∙ ap (λ a. let area : Area = record { region = c.args.self.now.region; blocks = with_block a c.args.size c.args.tag c.args.self.now.blocks } in area) (sym (at (goal.at.returns-clause-taken c).After-place_of-place (spot (goal.at.returns-clause-taken c).After-self)))

pub returns-clause-laid : goal.returns-clause-laid
returns-clause-laid c = (kept (goal.at.returns-clause-laid c).After-place_of-place (spot (goal.at.returns-clause-laid c).After-self)).header.laid
