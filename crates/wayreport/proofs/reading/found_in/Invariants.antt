-- What is left makes the outcomes from those so far.
use Rattle.std.proofs.Common.{ℕ, List, [], length, map}
use denote.Text.{Utf8}
use denote.Shadow.{shadow}
use Rattle.ways.specs.Tables.{Entry}
use Rattle.wayreport.specs.{Reports.found_view, Written.Make}
use Rattle.wayreport.proofs.reading.found_in.Given as goal

abbrev pub invariant-loop-rest : goal.invariant-loop-rest
invariant-loop-rest l = shadow (Utf8 l.rest) × ((entries : List (Entry (List ℕ))) → Make [] l.fn.text entries → Make (map found_view l.found.items) l.rest entries)

abbrev pub decreases-loop-rest : goal.decreases-loop-rest
decreases-loop-rest l = length l.rest
