-- The proof of `FreeSpace::next_below`: the chunk after the one at an address, or the first if that is 0, if it begins
-- below another address.
use Rattle.std.proofs.Common.{arith, ◌<◌}
use Rattle.memlist.specs.declared.gap.Gap.{Gap}
use Rattle.memlist.proofs.Walking.{parted_before, parted_end, pass, passed_walk}
use Rattle.memlist.proofs.space.FreeSpace.next_below.Goals as goal

pub after-requires : goal.after-requires
after-requires c = passed_walk c.requires

pub returns-then-gap-address : goal.returns-then-gap-address
returns-then-gap-address c =
    pass (λ (gap : Gap). gap.address < c.args.address) c.args.self.now.gaps c.args.before c.in-Some.gap c.requires (c.in-Some.ensures.is (passed_walk c.requires)) c.if-gap-address.true

pub returns-else-gap-address : goal.returns-else-gap-address
returns-else-gap-address c below above is low high =
    parted_before c.args.address c.args.self.now.gaps c.args.before c.in-Some.gap c.requires below above (c.in-Some.ensures.is (passed_walk c.requires)) (omega (arith, c.if-gap-address.false)) is low high

pub returns-in-None : goal.returns-in-None
returns-in-None c below above is low high =
    parted_end c.args.address c.args.self.now.gaps c.args.before c.requires below above (c.in-None.ensures.is (passed_walk c.requires)) is low high
