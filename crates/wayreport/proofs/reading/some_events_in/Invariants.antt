-- What is left of the text has the events that are left.
use Rattle.std.proofs.Common.{List, [], length}
use denote.Text.{Utf8}
use denote.Shadow.{shadow}
use Rattle.script.specs.declared.event.Event.{Event}
use Rattle.wayreport.specs.Written.{AreLeft}
use Rattle.wayreport.proofs.reading.some_events_in.Given as goal

abbrev pub invariant-loop-first : goal.invariant-loop-first
invariant-loop-first l = shadow (Utf8 l.rest) × ((events : List Event) → AreLeft [] l.fn.text 2100008 events → AreLeft l.events.items l.rest l.left events)

abbrev pub decreases-loop-first : goal.decreases-loop-first
decreases-loop-first l = length l.rest
