-- The gaps are walked along up to the first one that does not begin below the address.
use Rattle.std.proofs.Common.{◌<◌, sym, arith}
use Rattle.memlist.specs.declared.gap.Gap.{Gap}
use Rattle.memlist.proofs.{Readers.found_from, Readers.found_none, Walking.pass, Walking.pass_start, Walking.passed_walk}
use Rattle.memlist.proofs.space.FreeSpace.gap_from.Goals as goal

pub loop-gap-init : goal.loop-gap-init
loop-gap-init c = pass_start (λ (gap : Gap). gap.address < c.args.address) c.args.self.now.gaps

pub after-requires : goal.after-requires
after-requires c = passed_walk c.loop-gap.invariant

pub loop-gap-preserved : goal.loop-gap-preserved
loop-gap-preserved c =
    let p = c.loop-gap.invariant in
    pass (λ (gap : Gap). gap.address < c.args.address) c.args.self.now.gaps c.loop-gap.before c.in-Some.gap p
    (c.in-Some.ensures.is (passed_walk p)) (omega (arith, c.if-address-gap.false))

pub returns-then-address-gap : goal.returns-then-address-gap
returns-then-address-gap c =
    let p = c.loop-gap.invariant in
    sym (found_from c.args.address c.args.self.now.gaps c.loop-gap.before c.in-Some.gap p (c.in-Some.ensures.is (passed_walk p))
    (omega (arith, c.if-address-gap.true)))

pub returns : goal.returns
returns c =
    let p = c.loop-gap.invariant in
    sym (found_none c.args.address c.args.self.now.gaps c.loop-gap.before p (c.in_default.ensures.is (passed_walk p)))
