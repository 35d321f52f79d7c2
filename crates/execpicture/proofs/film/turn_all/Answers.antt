-- The proof of `turn_all`: each event takes its own time.
use Rattle.std.proofs.Common.{ℕ, subst}
use Rattle.std.proofs.lemmas.List.Sums.{sum_by-drop_more}
use Rattle.script.specs.Events.{event_ticks}
use Rattle.execsim.specs.Time.{HasTimeFor}
use Rattle.execpicture.proofs.Turns.{time_for_one}
use Rattle.execpicture.proofs.film.turn_all.Goals as goal

pub loop-one-init : goal.loop-one-init
loop-one-init g c = record { going = c.requires.going; time = c.requires.time }

pub turn_event-requires-clause-time : goal.turn_event-requires-clause-time
turn_event-requires-clause-time g c = time_for_one c.args.list.now c.loop-one.one-index _ c.loop-one-test.true c.loop-one.machine.seen c.loop-one.invariant.time

pub loop-one-preserved : goal.loop-one-preserved
loop-one-preserved g c = record {
  going = c.in_ok-turn_event.ensures.going;
  time = c.in_ok-turn_event.ensures.time _
      (subst (λ (n : ℕ). HasTimeFor n c.loop-one.machine.seen) (sum_by-drop_more event_ticks c.args.list.now c.loop-one.one-index _ c.loop-one-test.true)
      c.loop-one.invariant.time);
}
