-- The proof of `FreeSpace::largest`: the size of the greatest gap, or 0 if there is none.
use Rattle.std.proofs.Common.{List, ◌∙◌, refl, sym, ap, max, map}
use Rattle.memlist.specs.{declared.gap.Gap.Gap, Fit.greatest}
use Rattle.memlist.proofs.Walking.{count, count_start, counted, counted_walk, greatest_more}
use Rattle.memlist.proofs.space.FreeSpace.largest.Goals as goal

pub loop-gap-init : goal.loop-gap-init
loop-gap-init c = count_start (λ (gaps : List Gap). greatest (map (λ (gap : Gap). gap.size) gaps)) c.args.self.now.gaps refl

pub after-requires : goal.after-requires
after-requires c = counted_walk c.loop-gap.invariant

pub loop-gap-preserved : goal.loop-gap-preserved
loop-gap-preserved c =
    let p = c.loop-gap.invariant in
    count (λ (gaps : List Gap). greatest (map (λ (gap : Gap). gap.size) gaps)) c.args.self.now.gaps c.loop-gap.before c.loop-gap.largest _ c.in-Some.gap p (c.in-Some.ensures.is (counted_walk p))
    (c.max-largest.ensures ∙ ap (max c.in-Some.gap.size) p.count ∙ sym (greatest_more p.below c.in-Some.gap))

pub returns : goal.returns
returns c =
    let p = c.loop-gap.invariant in
    counted (λ (gaps : List Gap). greatest (map (λ (gap : Gap). gap.size) gaps)) c.args.self.now.gaps c.loop-gap.before c.loop-gap.largest p (c.in_default.ensures.is (counted_walk p))
