-- The rows of each event so far were put.
use Rattle.std.proofs.Common.{◌≡◌, ◌+◌, ◌*◌, ℕ, false, replicate}
use Rattle.exectrace.specs.declared.sinks.SinkState.TheVariants.{Good}
use Rattle.script.specs.Events.{event_ticks}
use Rattle.execsim.specs.Time.{HasTimeFor}
use Rattle.execlog.specs.Runs.{Logs}
use Rattle.execlog.proofs.log.advance_many.Given as goal

abbrev pub invariant-loop-turn : goal.invariant-loop-turn
invariant-loop-turn g l = record {
  logs : Logs (g.F.Form.shows l.initial.log.form.now) (replicate l._turn l.one) l.initial.log.number l.initial.machine.seen l.machine.seen (record { tape = g.W.Sink.tape l.initial.out; page = l.initial.log.page }) (record { tape = g.W.Sink.tape l.out; page = l.log.page });
  going : l.machine.failed ≡ false;
  good : l.log.text.state ≡ Good;
  number : l.log.number ≡ l.initial.log.number + l._turn;
  form : l.log.form ≡ l.initial.log.form;
  time : (ticks : ℕ) → HasTimeFor (l._turn * event_ticks l.one + ticks) l.initial.machine.seen → HasTimeFor ticks l.machine.seen;
}
