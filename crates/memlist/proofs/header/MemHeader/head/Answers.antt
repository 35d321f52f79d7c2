-- The proof of `MemHeader::head`: where the first chunk begins, or 0 if nothing is free.
use Rattle.std.proofs.Common.{ap, ◌∙◌}
use Rattle.memlist.specs.Chain.{first_or}
use Rattle.memlist.proofs.Headers.{gaps_shown}
use Rattle.memlist.proofs.header.MemHeader.head.Goals as goal

pub returns : goal.returns
returns c =
    let shown = gaps_shown c.self.inside.region c.self.inside.slots.items c.self.inside.space _ c.self.invariant.0 c.self.view_is in
    c.head.ensures ∙ ap (first_or 0) shown
