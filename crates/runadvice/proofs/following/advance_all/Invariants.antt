-- The machine has gone on over each event so far.
use Rattle.std.proofs.Common.{◌≡◌, false, take, drop, sum_by}
use Rattle.exectrace.specs.declared.sinks.SinkState.TheVariants.{Good}
use Rattle.script.specs.Events.{event_ticks}
use Rattle.execsim.specs.Time.{HasTimeFor}
use Rattle.runadvice.specs.Going.{Goes}
use Rattle.runadvice.proofs.following.advance_all.Given as goal

abbrev pub invariant-loop-one : goal.invariant-loop-one
invariant-loop-one l = record {
  goes : Goes (take l.one-index l.list) l.initial.run.machine.seen l.run.machine.seen l.initial.run.room.bytes.items l.run.room.bytes.items;
  going : l.run.machine.failed ≡ false;
  good : l.run.room.state ≡ Good;
  time : HasTimeFor (sum_by event_ticks (drop l.one-index l.list)) l.run.machine.seen;
}
