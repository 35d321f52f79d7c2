-- The actions of the events that are left are still to be added.
use Rattle.std.proofs.Common.{◌≡◌, ◌++◌, drop}
use Rattle.ways.specs.Ways.{actions}
use Rattle.ways.proofs.grouping.actions_of.Given as goal

abbrev pub invariant-loop-event : goal.invariant-loop-event
invariant-loop-event l = l.found.items ++ actions (drop l.event-index l.events) ≡ actions l.events
