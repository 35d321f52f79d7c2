-- Those so far are.
use Rattle.std.proofs.Common.{ℕ, ◌<◌, get_or, string_bytes}
use Rattle.wayreport.specs.{Reports.IsFirst, declared.report.Found.Found}
use Rattle.wayreport.proofs.reading.check_firsts.Given as goal

abbrev pub invariant-loop-i : goal.invariant-loop-i
invariant-loop-i l = (k : ℕ) (d : Found) → k < l.i → IsFirst (string_bytes (get_or l.found k d).first)
