-- What is left is still to be added.
use Rattle.std.proofs.Common.{◌≡◌, ◌+◌, ◌++◌, drop, map}
use Rattle.wayreport.specs.Reports.{entries_text, found_view}
use Rattle.wayreport.proofs.text.push_entries.Given as goal

abbrev pub invariant-loop-i : goal.invariant-loop-i
invariant-loop-i l = l.out.items ++ entries_text (l.i + 1) (drop l.i (map found_view l.found)) ≡ l.fn.out.items ++ entries_text 1 (map found_view l.found)
