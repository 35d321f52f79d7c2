-- The proof of `advance_steps`: does that many steps.
use Rattle.std.proofs.Common.{◌+◌, ap, refl, ◌∙◌, arith}
use Rattle.script.specs.declared.event.Event.TheVariants.{Run}
use Rattle.execlog.proofs.Logging.{logs_further, logs_next, logs_none}
use Rattle.execlog.proofs.log.advance_steps.Goals as goal

pub loop-done-init : goal.loop-done-init
loop-done-init g c = record {
  within = omega arith;
  logs = logs_none _ _ _ _;
  going = c.requires.going;
  good = c.requires.good;
  number = omega arith;
  form = refl;
  time = λ ticks enough. enough;
}

pub loop-done-preserved : goal.loop-done-preserved
loop-done-preserved g c =
    let j = c.loop-done.done in
    let i = c.in_ok-silent.silent + 1 in
    record {
      within = omega (arith, c.in_ok-silent.ensures.within, c.loop-done-test.true);
      logs = logs_further _ c.args.log.now.number j i (Run 1) c.loop-done.invariant.logs
          (logs_next g.F.Form.shows (ap (λ l. l.now) c.loop-done.invariant.form) c.loop-done.invariant.number c.in_ok-silent.ensures.logs);
      going = c.in_ok-silent.ensures.going;
      good = c.in_ok-silent.ensures.good;
      number = omega (arith, c.in_ok-silent.ensures.number, c.loop-done.invariant.number);
      form = c.in_ok-silent.ensures.form ∙ c.loop-done.invariant.form;
      time = λ ticks enough. c.in_ok-silent.ensures.time ticks (c.loop-done.invariant.time ticks enough);
    }
