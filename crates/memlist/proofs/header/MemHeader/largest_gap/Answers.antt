-- The proof of `MemHeader::largest_gap`: the size of the greatest gap, or 0 if there is none.
use Rattle.std.proofs.Common.{List, ap, map, ◌∙◌}
use Rattle.memlist.specs.{declared.gap.Gap.Gap, Fit.greatest}
use Rattle.memlist.proofs.Headers.{gaps_shown}
use Rattle.memlist.proofs.header.MemHeader.largest_gap.Goals as goal

pub returns : goal.returns
returns c =
    let shown = gaps_shown c.self.inside.region c.self.inside.slots.items c.self.inside.space _ c.self.invariant.0 c.self.view_is in
    c.largest.ensures ∙ ap (λ (gaps : List Gap). greatest (map (λ (gap : Gap). gap.size) gaps)) shown
