-- What holds in the loops of `events_of`.
use Rattle.std.proofs.Common.{◌≡◌, ◌≤◌, take, drop, map, length, sum_by, []}
use Rattle.script.specs.Events.{event_steps, event_ticks}
use Rattle.taskscript.specs.Events.{events_of, event_faults}
use Rattle.execlist.specs.Order.{first}
use Rattle.taskscript.proofs.events.events_of.Given as goal

abbrev pub invariant-loop-i : goal.invariant-loop-i
invariant-loop-i l = let lines = map (λ l. l.now) l.lines in record {
  found : l.events.items ≡ events_of (take l.i lines);
  steps_sum : l.steps ≡ sum_by event_steps l.events.items;
  ticks_sum : l.ticks ≡ sum_by event_ticks l.events.items;
  steps_limit : l.steps ≤ 1000000;
  ticks_limit : l.ticks ≤ 1000000;
  count_limit : length l.events.items ≤ 100000;
  judged : first (event_faults (take l.i lines) (drop l.i lines)) ≡ first (event_faults [] lines);
}
