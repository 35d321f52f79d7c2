-- No line feed so far.
use Rattle.execlog.specs.Rows.{IsPartTo}
use Rattle.execlog.proofs.feed.feed_by_one.Given as goal

abbrev pub invariant-loop-i : goal.invariant-loop-i
invariant-loop-i l = IsPartTo l.i l.text
