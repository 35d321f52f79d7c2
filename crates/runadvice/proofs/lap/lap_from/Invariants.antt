-- The machine can go on.
use Rattle.std.proofs.Common.{◌≡◌, false}
use Rattle.exectrace.specs.declared.sinks.SinkState.TheVariants.{Good}
use Rattle.execsim.specs.Time.{HasTimeFor}
use Rattle.runadvice.proofs.lap.lap_from.Given as goal

abbrev pub invariant-loop-step : goal.invariant-loop-step
invariant-loop-step l = record {
  going : l.run.machine.failed ≡ false;
  good : l.run.room.state ≡ Good;
  time : HasTimeFor 0 l.run.machine.seen;
}
