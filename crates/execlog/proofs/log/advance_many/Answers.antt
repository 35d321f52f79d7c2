-- The proof of `advance_many`: does one step, tick or request that many times.
use Rattle.std.proofs.Common.{◌+◌, ◌*◌, ◌≤◌, ℕ, ap, refl, subst, ◌∙◌, arith, mul-le-mul_right}
use Rattle.script.specs.Events.{event_ticks}
use Rattle.execsim.specs.Time.{HasTimeFor}
use Rattle.execsim.proofs.Clock.{time_for_fewer}
use Rattle.execlog.proofs.Logging.{logs_again, logs_next, logs_none, more_time}
use Rattle.execlog.proofs.log.advance_many.Goals as goal

pub loop-turn-init : goal.loop-turn-init
loop-turn-init g c = record {
  logs = logs_none _ _ _ _;
  going = c.requires.going;
  good = c.requires.good;
  number = omega arith;
  form = refl;
  time = λ ticks enough. time_for_fewer ticks (0 * event_ticks c.args.one + ticks) c.args.machine.now.seen (omega arith) enough;
}

pub advance-requires-clause-number : goal.advance-requires-clause-number
advance-requires-clause-number g c = omega (arith, c.requires.number, c.loop-turn.invariant.number, c.loop-turn-test.true)

pub advance-requires-clause-time : goal.advance-requires-clause-time
advance-requires-clause-time g c =
    let k = event_ticks c.args.one in
    let j = c.loop-turn._turn in
    let more : j + 1 ≤ c.args.many = omega (arith, c.loop-turn-test.true) in
    let most : j * k + k ≤ c.args.many * k = omega (arith, mul-le-mul_right k more, more_time j k 0) in
    c.loop-turn.invariant.time k (time_for_fewer (j * k + k) (c.args.many * k) c.args.machine.now.seen most c.requires.time)

pub loop-turn-preserved : goal.loop-turn-preserved
loop-turn-preserved g c =
    let k = event_ticks c.args.one in
    let j = c.loop-turn._turn in
    record {
      logs = logs_again _ c.args.log.now.number j c.args.one c.loop-turn.invariant.logs
          (logs_next g.F.Form.shows (ap (λ l. l.now) c.loop-turn.invariant.form) c.loop-turn.invariant.number c.in_ok-advance.ensures.logs);
      going = c.in_ok-advance.ensures.going;
      good = c.in_ok-advance.ensures.good;
      number = omega (arith, c.in_ok-advance.ensures.number, c.loop-turn.invariant.number);
      form = c.in_ok-advance.ensures.form ∙ c.loop-turn.invariant.form;
      time = λ ticks enough. c.in_ok-advance.ensures.time ticks
          (c.loop-turn.invariant.time (k + ticks) (subst (λ (n : ℕ). HasTimeFor n c.args.machine.now.seen) (more_time j k ticks) enough));
    }
