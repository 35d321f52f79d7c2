-- The proof of `Machine::play`: plays a run: starts the machine, does one event after another, and says what happens.
use Rattle.std.proofs.Common.{ap, not, sym, ◌∙◌, subst, sum_by}
use Rattle.script.specs.Events.{event_ticks}
use Rattle.execsim.specs.{Headline.Shown, Headline.flow_of, Time.HasTimeFor}
use Rattle.execsim.proofs.{Acting.known_after, Acting.still_good, Clock.time_from_start, Following.while_good, Following.while_good_then, Reached.run_reached, Advancing.not_known}
use Rattle.execsim.proofs.machine.Machine.play.Goals as goal

pub events-requires : goal.events-requires
events-requires g c = time_from_start _
    (λ good. record {
      known = c.self.invariant.0 (ap (λ (x : Shown). x.failed) c.self.view_is ∙ c.requires.going);
      time = subst (λ (x : Shown). HasTimeFor (sum_by event_ticks c.args.list.now) x.seen) (sym c.self.view_is) c.requires.time;
    })
    (while_good c.requires.listens c.start.ensures)

-- (while it is listened to it shows a state after a run)
pub invariant_of-self : goal.invariant_of-self
invariant_of-self g c = (
  λ going. known_after (run_reached c.args.list.now)
      (c.self.invariant.0 (ap (λ (x : Shown). x.failed) c.self.view_is ∙ c.requires.going))
      (while_good_then (while_good c.requires.listens c.start.ensures) c.events.ensures) (still_good _ _ c.is_good.ensures going),
  not_known,
)

pub returns : goal.returns
returns g c = rw (← c.self.view_is) (record {
  follows = while_good_then (while_good c.requires.listens c.start.ensures) c.events.ensures;
  failed = ap not c.is_good.ensures;
  flow = c.flow_for.ensures ∙ ap flow_of c.is_stopped.ensures;
})
