-- The proof of `run_events`: one event after another.
use Rattle.std.proofs.Common.{◌≡◌, ◌+◌, ℕ, drop, get_or, subst, refl, arith, sum_by}
use Rattle.script.specs.{Events.event_ticks, declared.event.Event.TheVariants.Run}
use Rattle.execsim.specs.Time.{HasTimeFor}
use Rattle.execsim_c.proofs.Steps.{does_none, does_more, ticks_left}
use Rattle.execsim_c.proofs.session.run_events.Goals as goal

pub loop-event-init : goal.loop-event-init
loop-event-init g c = record {
  good = c.requires.good;
  whole = c.requires.whole;
  does = does_none c.args.machine.now.seen (g.W.Sink.tape c.args.out.now);
  time = c.requires.time;
  more = λ ticks h. h;
}

pub loop-event-preserved : goal.loop-event-preserved
loop-event-preserved g c =
    let list = c.args.list.now in
    let k = c.loop-event.event-index in
    let within = c.loop-event-test.true in
    let before = c.loop-event.invariant in
    let rest = sum_by event_ticks (drop (k + 1) list) in
    let left = ticks_left list k (Run 0) within in
    let acts = c.in_ok-event.ensures.acts before.whole in
    record {
      good = c.in_ok-event.ensures.good refl;
      whole = acts.going.1;
      does = does_more list k (Run 0) c.args.machine.now.seen c.loop-event.machine c.event.new.self
          (g.W.Sink.tape c.args.out.now) (g.W.Sink.tape c.loop-event.out) (g.W.Sink.tape c.event.new.out) c.in_ok-event.field-0 within before.does acts;
      time = c.in_ok-event.ensures.time_left before.whole refl rest (subst (λ (n : ℕ). HasTimeFor n c.loop-event.machine.seen) left before.time);
      more = λ ticks h.
          let all : sum_by event_ticks (drop k list) + ticks ≡ event_ticks (get_or list k (Run 0)) + (rest + ticks) = omega (arith, left) in
          c.in_ok-event.ensures.time_left before.whole refl (rest + ticks) (subst (λ (n : ℕ). HasTimeFor n c.loop-event.machine.seen) all (before.more ticks h));
    }
