-- No line feed so far.
use Rattle.std.proofs.Common.{◌-◌}
use Rattle.execlog.specs.Rows.{IsPartTo}
use Rattle.execlog.proofs.feed.feed_by.Given as goal

abbrev pub invariant-loop-at : goal.invariant-loop-at
invariant-loop-at g l = IsPartTo l.at l.text

abbrev pub decreases-loop-at : goal.decreases-loop-at
decreases-loop-at g l = l.last - l.at
