-- The proof of `FreeSpace::upper`: the chunk that a block of that many bytes becomes with the gap that begins at its
-- end, if one does, if the chunk before it begins at an address.
use Rattle.std.proofs.Common.{◌∙◌}
use Rattle.memlist.proofs.Walking.{next_alone, next_apart, next_touching, size_alone, size_apart, size_touching, step}
use Rattle.memlist.proofs.space.FreeSpace.upper.Goals as goal

pub after-requires : goal.after-requires
after-requires c = c.requires.walk

pub next-requires : goal.next-requires
next-requires c = step c.args.self.now.gaps c.args.before c.in-Some.gap c.requires.walk (c.in-Some.ensures.is c.requires.walk)

pub returns-then-gap-end-clause-next : goal.returns-then-gap-end-clause-next
returns-then-gap-end-clause-next c walk =
    let at = c.in-Some.ensures.is walk in
    c.next.ensures.is (step c.args.self.now.gaps c.args.before c.in-Some.gap walk at) ∙ next_touching c.args.end walk.above c.in-Some.gap at c.if-gap-end.true

pub returns-then-gap-end-clause-size : goal.returns-then-gap-end-clause-size
returns-then-gap-end-clause-size c walk = size_touching c.args.end c.args.size walk.above c.in-Some.gap (c.in-Some.ensures.is walk) c.if-gap-end.true

pub returns-else-gap-end-clause-next : goal.returns-else-gap-end-clause-next
returns-else-gap-end-clause-next c walk = next_apart c.args.end walk.above c.in-Some.gap (c.in-Some.ensures.is walk) c.if-gap-end.false

pub returns-else-gap-end-clause-size : goal.returns-else-gap-end-clause-size
returns-else-gap-end-clause-size c walk = size_apart c.args.end c.args.size walk.above c.in-Some.gap (c.in-Some.ensures.is walk) c.if-gap-end.false

pub returns-in-None-clause-next : goal.returns-in-None-clause-next
returns-in-None-clause-next c walk = next_alone c.args.end walk.above (c.in-None.ensures.is walk)

pub returns-in-None-clause-size : goal.returns-in-None-clause-size
returns-in-None-clause-size c walk = size_alone c.args.end c.args.size walk.above (c.in-None.ensures.is walk)
