-- The proof of `turn_many`: each turn takes its own time.
use Rattle.std.proofs.Common.{◌+◌, ◌*◌, ◌≤◌, ℕ, subst, arith, mul-le-mul_right}
use Rattle.script.specs.Events.{event_ticks}
use Rattle.execsim.specs.Time.{HasTimeFor}
use Rattle.execsim.proofs.Clock.{time_for_fewer}
use Rattle.execpicture.proofs.Turns.{more_time}
use Rattle.execpicture.proofs.film.turn_many.Goals as goal

pub loop-turn-init : goal.loop-turn-init
loop-turn-init g c = record {
  going = c.requires.going;
  time = λ ticks enough. time_for_fewer ticks (0 * event_ticks c.args.one + ticks) c.args.machine.now.seen (omega arith) enough;
}

pub turn_once-requires-clause-time : goal.turn_once-requires-clause-time
turn_once-requires-clause-time g c =
    let k = event_ticks c.args.one in
    let j = c.loop-turn._turn in
    let more : j + 1 ≤ c.args.many = omega (arith, c.loop-turn-test.true) in
    let most : j * k + k ≤ c.args.many * k = omega (arith, mul-le-mul_right k more, more_time j k 0) in
    c.loop-turn.invariant.time k (time_for_fewer (j * k + k) (c.args.many * k) c.args.machine.now.seen most c.requires.time)

pub loop-turn-preserved : goal.loop-turn-preserved
loop-turn-preserved g c =
    let k = event_ticks c.args.one in
    let j = c.loop-turn._turn in
    record {
      going = c.in_ok-turn_once.ensures.going;
      time = λ ticks enough. c.in_ok-turn_once.ensures.time ticks
          (c.loop-turn.invariant.time (k + ticks) (subst (λ (n : ℕ). HasTimeFor n c.args.machine.now.seen) (more_time j k ticks) enough));
    }
