-- What is left is still to be added.
use Rattle.std.proofs.Common.{◌≡◌, ◌++◌, drop, flat_map, string_bytes}
use Rattle.wayreport.specs.Events.{marked_event}
use Rattle.wayreport.proofs.events.push_rest.Given as goal

abbrev pub invariant-loop-event : goal.invariant-loop-event
invariant-loop-event l = string_bytes l.out ++ flat_map marked_event (drop l.event-index l.events) ≡ string_bytes l.fn.out ++ flat_map marked_event l.events
