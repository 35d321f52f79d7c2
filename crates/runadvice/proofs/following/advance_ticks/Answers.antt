-- The proof of `advance_ticks`: does that many ticks, one at a time.
use Rattle.std.proofs.Common.{◌≡◌, ◌+◌, ◌≤◌, ℕ, subst, arith}
use Rattle.execsim.specs.Time.{HasTimeFor}
use Rattle.execsim.proofs.Clock.{time_for_fewer}
use Rattle.runadvice.proofs.Follows.{goes_no_ticks, goes_ticks}
use Rattle.runadvice.proofs.following.advance_ticks.Goals as goal

pub loop-tick-init : goal.loop-tick-init
loop-tick-init c = record {
  goes = goes_no_ticks _ _;
  going = c.requires.going;
  good = c.requires.good;
  time = λ ticks enough.
      let none : 0 + ticks ≡ ticks = omega arith in
      subst (λ (n : ℕ). HasTimeFor n c.args.run.now.machine.seen) none enough;
}

pub advance-requires-clause-time : goal.advance-requires-clause-time
advance-requires-clause-time c =
    let j = c.loop-tick._tick in
    let more : j + 1 ≤ c.args.count = omega (arith, c.loop-tick-test.true) in
    c.loop-tick.invariant.time 1 (time_for_fewer (j + 1) c.args.count c.args.run.now.machine.seen more c.requires.time)

pub loop-tick-preserved : goal.loop-tick-preserved
loop-tick-preserved c =
    let j = c.loop-tick._tick in
    record {
      goes = goes_ticks j 1 c.loop-tick.invariant.goes c.in_ok-advance.ensures.goes;
      going = c.in_ok-advance.ensures.going;
      good = c.in_ok-advance.ensures.good;
      time = λ ticks enough.
          let one_more : j + 1 + ticks ≡ j + (1 + ticks) = omega arith in
          c.in_ok-advance.ensures.time ticks
          (c.loop-tick.invariant.time (1 + ticks) (subst (λ (n : ℕ). HasTimeFor n c.args.run.now.machine.seen) one_more enough));
    }
