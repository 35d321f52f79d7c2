-- The machine has gone on over that many steps.
use Rattle.std.proofs.Common.{◌≡◌, ◌∷◌, ◌-◌, ◌≤◌, ℕ, [], false}
use Rattle.exectrace.specs.declared.sinks.SinkState.TheVariants.{Good}
use Rattle.script.specs.declared.event.Event.TheVariants.{Run}
use Rattle.execsim.specs.Time.{HasTimeFor}
use Rattle.runadvice.specs.Going.{Goes}
use Rattle.runadvice.proofs.following.advance_steps.Given as goal

abbrev pub invariant-loop-done : goal.invariant-loop-done
invariant-loop-done l = record {
  within : l.done ≤ l.count;
  goes : Goes (Run l.done ∷ []) l.initial.run.machine.seen l.run.machine.seen l.initial.run.room.bytes.items l.run.room.bytes.items;
  going : l.run.machine.failed ≡ false;
  good : l.run.room.state ≡ Good;
  time : (ticks : ℕ) → HasTimeFor ticks l.initial.run.machine.seen → HasTimeFor ticks l.run.machine.seen;
}

-- each turn does a step
abbrev pub decreases-loop-done : goal.decreases-loop-done
decreases-loop-done l = l.count - l.done
