-- The events so far, and the time of those that are left.
use Rattle.std.proofs.Common.{◌≡◌, ◌+◌, ℕ, take, drop, false, sum_by}
use Rattle.exectrace.specs.declared.sinks.SinkState.TheVariants.{Good}
use Rattle.script.specs.Events.{event_ticks}
use Rattle.execmodel.specs.Step.{events}
use Rattle.execsim.specs.Time.{HasTimeFor}
use Rattle.execsim_c.specs.Stepping.{Does}
use Rattle.execsim_c.proofs.session.run_events.Given as goal

abbrev pub invariant-loop-event : goal.invariant-loop-event
invariant-loop-event g l = record {
  good : (g.W.Sink.tape l.out).state ≡ Good;
  whole : l.machine.failed ≡ false;
  does : Does (events (take l.event-index l.list)) l.fn.machine.seen l.machine.seen (g.W.Sink.tape l.fn.out).taken (g.W.Sink.tape l.out).taken;
  time : HasTimeFor (sum_by event_ticks (drop l.event-index l.list)) l.machine.seen;
  more : (ticks : ℕ) → HasTimeFor (sum_by event_ticks l.list + ticks) l.fn.machine.seen → HasTimeFor (sum_by event_ticks (drop l.event-index l.list) + ticks) l.machine.seen;
}
