-- What is left is still to be added.
use Rattle.std.proofs.Common.{◌≡◌, ◌++◌, drop, flat_map, string_bytes}
use Rattle.wayreport.specs.Events.{event_line}
use Rattle.wayreport.proofs.events.push_lines.Given as goal

abbrev pub invariant-loop-event : goal.invariant-loop-event
invariant-loop-event l = string_bytes l.out ++ flat_map event_line (drop l.event-index l.events) ≡ string_bytes l.fn.out ++ flat_map event_line l.events
