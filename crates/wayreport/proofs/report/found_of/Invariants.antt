-- Those so far.
use Rattle.std.proofs.Common.{◌≡◌, map, take}
use Rattle.ways.specs.Entries.{entry_of}
use Rattle.wayreport.specs.Reports.{found_view, told}
use Rattle.wayreport.proofs.report.found_of.Given as goal

abbrev pub invariant-loop-outcome : goal.invariant-loop-outcome
invariant-loop-outcome l = map found_view l.found.items ≡ map told (map entry_of (take l.outcome-index l.outcomes))
