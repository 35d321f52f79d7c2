-- None waits any more.
use Rattle.std.proofs.Common.{[], None, replicate, refl, ap, ◌∙◌}
use Rattle.timerdev.proofs.Keeping.{held_none}
use Rattle.timerdev.proofs.timer.Timer.reset.Goals as goal

pub invariant_of-self : goal.invariant_of-self
invariant_of-self g c =
    let queues = c.reset.new.self in
    let begun = c.reset-2.new.self in
    let was = c.self.invariant in
    held_none _ (g.S.ListSpace.sequences queues) (g.S.ListSpace.sequences begun) (g.S.ListSpace.homes queues) (g.S.ListSpace.homes begun)
    c.self.inside.dues.items
    (c.reset.ensures.empty ∙ ap (λ k. replicate k []) was.two_headers)
    (c.reset.ensures.unlinked ∙ ap (λ k. replicate k None) was.each)
    (c.reset-2.ensures.empty ∙ ap (λ k. replicate k []) was.one_header)
    (c.reset-2.ensures.unlinked ∙ ap (λ k. replicate k None) was.each_begun)
    refl
