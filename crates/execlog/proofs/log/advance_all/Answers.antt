-- The proof of `advance_all`: does some events, one step and one tick at a time.
use Rattle.std.proofs.Common.{ℕ, refl, subst, ◌∙◌, ap, arith}
use Rattle.std.proofs.lemmas.List.Sums.{sum_by-drop_more}
use Rattle.script.specs.Events.{event_ticks}
use Rattle.execsim.specs.Time.{HasTimeFor}
use Rattle.execlog.proofs.Logging.{few_turns, logs_next, logs_none, logs_turn, time_for_one, turns_more}
use Rattle.execlog.proofs.log.advance_all.Goals as goal

pub loop-one-init : goal.loop-one-init
loop-one-init g c = record {
  logs = logs_none _ _ _ _;
  going = c.requires.going;
  good = c.requires.good;
  number = omega arith;
  form = refl;
  time = c.requires.time;
}

pub advance_event-requires-clause-number : goal.advance_event-requires-clause-number
advance_event-requires-clause-number g c =
    few_turns c.args.list.now c.loop-one.one-index _ c.loop-one-test.true c.args.log.now.number c.loop-one.log.number c.loop-one.invariant.number c.requires.number

pub advance_event-requires-clause-time : goal.advance_event-requires-clause-time
advance_event-requires-clause-time g c = time_for_one c.args.list.now c.loop-one.one-index _ c.loop-one-test.true c.loop-one.machine.seen c.loop-one.invariant.time

pub loop-one-preserved : goal.loop-one-preserved
loop-one-preserved g c = record {
  logs = logs_turn _ c.args.log.now.number c.args.list.now c.loop-one.one-index _ c.loop-one-test.true c.loop-one.invariant.logs
      (logs_next g.F.Form.shows (ap (λ l. l.now) c.loop-one.invariant.form) c.loop-one.invariant.number c.in_ok-advance_event.ensures.logs);
  going = c.in_ok-advance_event.ensures.going;
  good = c.in_ok-advance_event.ensures.good;
  number = turns_more c.args.list.now c.loop-one.one-index _ c.loop-one-test.true c.args.log.now.number c.loop-one.log.number _ c.loop-one.invariant.number c.in_ok-advance_event.ensures.number;
  form = c.in_ok-advance_event.ensures.form ∙ c.loop-one.invariant.form;
  time = c.in_ok-advance_event.ensures.time _
      (subst (λ (n : ℕ). HasTimeFor n c.loop-one.machine.seen) (sum_by-drop_more event_ticks c.args.list.now c.loop-one.one-index _ c.loop-one-test.true)
      c.loop-one.invariant.time);
}
