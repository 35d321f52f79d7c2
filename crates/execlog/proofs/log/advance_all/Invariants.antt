-- The rows of each event so far were put.
use Rattle.std.proofs.Common.{◌≡◌, ◌+◌, false, take, drop, sum_by}
use Rattle.exectrace.specs.declared.sinks.SinkState.TheVariants.{Good}
use Rattle.script.specs.Events.{event_ticks}
use Rattle.execsim.specs.Time.{HasTimeFor}
use Rattle.execlog.specs.{Log.turns, Log.units, Runs.Logs}
use Rattle.execlog.proofs.log.advance_all.Given as goal

abbrev pub invariant-loop-one : goal.invariant-loop-one
invariant-loop-one g l = record {
  logs : Logs (g.F.Form.shows l.initial.log.form.now) (units (take l.one-index l.list)) l.initial.log.number l.initial.machine.seen l.machine.seen (record { tape = g.W.Sink.tape l.initial.out; page = l.initial.log.page }) (record { tape = g.W.Sink.tape l.out; page = l.log.page });
  going : l.machine.failed ≡ false;
  good : l.log.text.state ≡ Good;
  number : l.log.number ≡ l.initial.log.number + sum_by turns (take l.one-index l.list);
  form : l.log.form ≡ l.initial.log.form;
  time : HasTimeFor (sum_by event_ticks (drop l.one-index l.list)) l.machine.seen;
}
