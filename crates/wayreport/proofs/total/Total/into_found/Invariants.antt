-- What is left is still to be moved.
use Rattle.std.proofs.Common.{◌≡◌, ◌++◌, map}
use Rattle.wayreport.specs.{Reports.found_view, Totals.entries_in}
use Rattle.wayreport.proofs.total.Total.into_found.Given as goal

abbrev pub invariant-loop-seen : goal.invariant-loop-seen
invariant-loop-seen l = map found_view l.found.items ++ entries_in l.seen-iterator ≡ l.fn.self
