-- The rows of the steps so far were put.
use Rattle.std.proofs.Common.{◌≡◌, ◌+◌, ◌-◌, ◌≤◌, ℕ, false, replicate}
use Rattle.exectrace.specs.declared.sinks.SinkState.TheVariants.{Good}
use Rattle.script.specs.declared.event.Event.TheVariants.{Run}
use Rattle.execsim.specs.Time.{HasTimeFor}
use Rattle.execlog.specs.Runs.{Logs}
use Rattle.execlog.proofs.log.advance_steps.Given as goal

abbrev pub invariant-loop-done : goal.invariant-loop-done
invariant-loop-done g l = record {
  within : l.done ≤ l.many;
  logs : Logs (g.F.Form.shows l.initial.log.form.now) (replicate l.done (Run 1)) l.initial.log.number l.initial.machine.seen l.machine.seen (record { tape = g.W.Sink.tape l.initial.out; page = l.initial.log.page }) (record { tape = g.W.Sink.tape l.out; page = l.log.page });
  going : l.machine.failed ≡ false;
  good : l.log.text.state ≡ Good;
  number : l.log.number ≡ l.initial.log.number + l.done;
  form : l.log.form ≡ l.initial.log.form;
  time : (ticks : ℕ) → HasTimeFor ticks l.initial.machine.seen → HasTimeFor ticks l.machine.seen;
}

-- each turn does a step
abbrev pub decreases-loop-done : goal.decreases-loop-done
decreases-loop-done g l = l.many - l.done
