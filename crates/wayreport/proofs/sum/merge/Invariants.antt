-- What is left is still to be added.
use Rattle.std.proofs.Common.{◌≡◌, drop, map}
use Rattle.ways.specs.Tables.{merged}
use Rattle.wayreport.specs.Reports.{found_view}
use Rattle.wayreport.proofs.sum.merge.Given as goal

abbrev pub invariant-loop-one : goal.invariant-loop-one
invariant-loop-one l = merged l.total (map found_view (drop l.one-index l.more)) ≡ merged l.fn.total (map found_view l.more)
