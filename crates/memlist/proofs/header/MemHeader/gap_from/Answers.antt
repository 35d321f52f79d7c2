-- The chunks of a region are its gaps.
use Rattle.std.proofs.Common.{ap, ◌∙◌}
use Rattle.memlist.specs.Readers.{gap_from}
use Rattle.memlist.proofs.Headers.{gaps_shown}
use Rattle.memlist.proofs.header.MemHeader.gap_from.Goals as goal

pub returns : goal.returns
returns c =
    let shown = gaps_shown c.self.inside.region c.self.inside.slots.items c.self.inside.space _ c.self.invariant.0 c.self.view_is in
    c.gap_from.ensures ∙ ap (gap_from c.args.address) shown
