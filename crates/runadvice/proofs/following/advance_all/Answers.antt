-- The proof of `advance_all`: does some events.
use Rattle.std.proofs.Common.{ℕ, subst}
use Rattle.std.proofs.lemmas.List.Sums.{sum_by-drop_more}
use Rattle.script.specs.Events.{event_ticks}
use Rattle.execsim.specs.Time.{HasTimeFor}
use Rattle.runadvice.proofs.Follows.{goes_none, goes_turn, time_for_one}
use Rattle.runadvice.proofs.following.advance_all.Goals as goal

pub loop-one-init : goal.loop-one-init
loop-one-init c = record {
  goes = goes_none _ _;
  going = c.requires.going;
  good = c.requires.good;
  time = c.requires.time;
}

pub advance_event-requires-clause-time : goal.advance_event-requires-clause-time
advance_event-requires-clause-time c = time_for_one c.args.list.now c.loop-one.one-index _ c.loop-one-test.true c.loop-one.run.machine.seen c.loop-one.invariant.time

pub loop-one-preserved : goal.loop-one-preserved
loop-one-preserved c = record {
  goes = goes_turn c.args.list.now c.loop-one.one-index _ c.loop-one-test.true c.loop-one.invariant.goes c.in_ok-advance_event.ensures.goes;
  going = c.in_ok-advance_event.ensures.going;
  good = c.in_ok-advance_event.ensures.good;
  time = c.in_ok-advance_event.ensures.time _
      (subst (λ (n : ℕ). HasTimeFor n c.loop-one.run.machine.seen) (sum_by-drop_more event_ticks c.args.list.now c.loop-one.one-index _ c.loop-one-test.true)
      c.loop-one.invariant.time);
}
