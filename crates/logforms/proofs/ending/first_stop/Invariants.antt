-- What is left gets shorter, and ends where it did or before.
use Rattle.std.proofs.Common.{◌≤◌, ◌-◌}
use Rattle.logforms.proofs.ending.first_stop.Given as goal

abbrev pub invariant-loop-low : goal.invariant-loop-low
invariant-loop-low l = l.high ≤ l.initial.high

abbrev pub decreases-loop-low : goal.decreases-loop-low
decreases-loop-low l = l.high - l.low
