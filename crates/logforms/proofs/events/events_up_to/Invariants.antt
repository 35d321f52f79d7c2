-- The sums of what is taken.
use Rattle.std.proofs.Common.{◌≡◌, ◌≤◌, sum_by}
use Rattle.script.specs.Events.{event_ticks}
use Rattle.execlog.specs.Log.{turns}
use Rattle.logforms.proofs.events.events_up_to.Given as goal

abbrev pub invariant-loop-event : goal.invariant-loop-event
invariant-loop-event l = record {
  turns : l.turns ≡ sum_by turns l.part.items;
  ticks : l.ticks ≡ sum_by event_ticks l.part.items;
  few : l.turns ≤ 4000000;
  time : l.ticks ≤ 1000000;
}
