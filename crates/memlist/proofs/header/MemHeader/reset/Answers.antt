-- The proof of `MemHeader::reset`: frees every block.
use Rattle.std.proofs.Common.{◌≡◌, ◌/◌, [], replicate, arith, ap, ◌∙◌}
use Rattle.memlist.specs.{Areas.Area, Areas.empty_slot, Blocks.stretch, Chain.Space}
use Rattle.memlist.proofs.{Headers.Keeps, Headers.new_header, Resets.table_emptied, Resets.unused_none, header.MemHeader.reset.Goals.After-reset}
use Rattle.memlist.proofs.header.MemHeader.reset.Goals as goal

module _ (c : After-reset) where
  slots : c.empty.new.slots.items ≡ replicate (c.self.inside.region.size / 8) empty_slot
  slots =
      let was = c.self.invariant.0 in
      table_emptied c.self.inside.unused (c.self.inside.region.size / 8) c.self.inside.slots.items c.empty.new.slots.items c.self.invariant.1 (omega (arith, was.units)) c.empty.ensures

  kept : Keeps c.self.inside.region c.empty.new.slots.items c.reset.new.self []
  kept =
      let region = c.self.inside.region in let was = c.self.invariant.0 in
      new_header region c.empty.new.slots.items c.reset.new.self was.aligned was.in_reach slots
      (c.reset.ensures
      ∙ ap (λ b. let space : Space = record { base = b; end = c.self.inside.space.end; gaps = stretch b c.self.inside.space.end } in space) was.base
      ∙ ap (λ e. let space : Space = record { base = region.base; end = e; gaps = stretch region.base e } in space) was.end)

pub invariant_of-self : goal.invariant_of-self
invariant_of-self c = ((kept (goal.at.invariant_of-self c).After-reset).header, unused_none (c.self.inside.region.size / 8) c.empty.new.slots.items (slots (goal.at.invariant_of-self c).After-reset))

pub returns-clause-value : goal.returns-clause-value
returns-clause-value c =
    ap (λ bs. let area : Area = record { region = c.self.inside.region; blocks = bs } in area) (kept (goal.at.returns-clause-value c).After-reset).shown
    ∙ ap (λ (a : Area). let area : Area = record { region = a.region; blocks = [] } in area) c.self.view_is

pub returns-clause-laid : goal.returns-clause-laid
returns-clause-laid c = (kept (goal.at.returns-clause-laid c).After-reset).header.laid
