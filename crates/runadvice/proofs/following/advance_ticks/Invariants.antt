-- The machine has gone on over that many ticks.
use Rattle.std.proofs.Common.{◌≡◌, ◌+◌, ◌∷◌, ℕ, [], false}
use Rattle.exectrace.specs.declared.sinks.SinkState.TheVariants.{Good}
use Rattle.script.specs.declared.event.Event.TheVariants.{Tick}
use Rattle.execsim.specs.Time.{HasTimeFor}
use Rattle.runadvice.specs.Going.{Goes}
use Rattle.runadvice.proofs.following.advance_ticks.Given as goal

abbrev pub invariant-loop-tick : goal.invariant-loop-tick
invariant-loop-tick l = record {
  goes : Goes (Tick l._tick ∷ []) l.initial.run.machine.seen l.run.machine.seen l.initial.run.room.bytes.items l.run.room.bytes.items;
  going : l.run.machine.failed ≡ false;
  good : l.run.room.state ≡ Good;
  time : (ticks : ℕ) → HasTimeFor (l._tick + ticks) l.initial.run.machine.seen → HasTimeFor ticks l.run.machine.seen;
}
