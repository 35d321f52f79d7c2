-- What is left is still to be added.
use Rattle.std.proofs.Common.{◌≡◌, ◌+◌, drop, map}
use Rattle.ways.specs.Tables.{total}
use Rattle.wayreport.specs.Reports.{found_view}
use Rattle.wayreport.proofs.right.total_of.Given as goal

abbrev pub invariant-loop-one : goal.invariant-loop-one
invariant-loop-one l = l.ways + total (map found_view (drop l.one-index l.found)) ≡ total (map found_view l.found)
