-- What is before the bytes that are looked at has no line feed.
use Rattle.std.proofs.Common.{◌-◌, ◌<◌, ◌+◌, length, arith}
use Rattle.execlog.proofs.Feeds.{part_goes_on}
use Rattle.execlog.proofs.feed.feed_by.Goals as goal

pub returns-then-len : goal.returns-then-len
returns-then-len g c =
    let less : c.part_len-len.result < g.row.N = c.if-len.true in (
      omega (arith, less, c.loop-at-test.true, c.requires.long),
      c.part_len-len.ensures.feed less,
      part_goes_on c.args.text.now c.loop-at.at g.row.N c.part_len-len.result c.loop-at.invariant c.part_len-len.ensures.before (c.loop-at.at + c.part_len-len.result) (omega (arith, less)) (omega arith),
    )

pub loop-at-preserved : goal.loop-at-preserved
loop-at-preserved g c =
    part_goes_on c.args.text.now c.loop-at.at g.row.N c.part_len-len.result c.loop-at.invariant c.part_len-len.ensures.before (c.loop-at.at + g.row.N) (omega arith) (omega (arith, c.if-len.false))

pub returns-then-len-2 : goal.returns-then-len-2
returns-then-len-2 g c =
    let less : c.part_len-len-2.result < g.row.N = c.if-len-2.true in
    let last = length c.args.text.now - g.row.N in (
      omega (arith, less, c.requires.long),
      c.part_len-len-2.ensures.feed less,
      part_goes_on c.args.text.now last g.row.N c.part_len-len-2.result (λ k l. c.loop-at.invariant k (omega (arith, l, c.loop-at-test.false))) c.part_len-len-2.ensures.before (last + c.part_len-len-2.result) (omega (arith, less)) (omega arith),
    )

pub returns-else-len-2 : goal.returns-else-len-2
returns-else-len-2 g c =
    let last = length c.args.text.now - g.row.N in
    part_goes_on c.args.text.now last g.row.N c.part_len-len-2.result (λ k l. c.loop-at.invariant k (omega (arith, l, c.loop-at-test.false))) c.part_len-len-2.ensures.before (length c.args.text.now) (omega (arith, c.requires.long)) (omega (arith, c.if-len-2.false, c.requires.long))
