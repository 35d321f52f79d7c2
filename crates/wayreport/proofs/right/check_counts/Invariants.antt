-- Those so far are shown by a way.
use Rattle.std.proofs.Common.{ℕ, ◌<◌, ◌≤◌, get_or}
use Rattle.wayreport.specs.declared.report.Found.{Found}
use Rattle.wayreport.proofs.right.check_counts.Given as goal

abbrev pub invariant-loop-i : goal.invariant-loop-i
invariant-loop-i l = (k : ℕ) (d : Found) → k < l.i → 1 ≤ (get_or l.found k d).count
