-- The proof of `Machine::run`: starts the machine and does one event after another.
use Rattle.std.proofs.Common.{ap, sym, ◌∙◌, subst, sum_by}
use Rattle.script.specs.Events.{event_ticks}
use Rattle.execsim.specs.{Headline.Shown, Time.HasTimeFor}
use Rattle.execsim.proofs.{Acting.acts_by, Acting.known_after_action, Clock.time_from_start, Following.while_good, Following.while_good_then, Reached.run_reached, Advancing.not_known}
use Rattle.exectrace.specs.Printing.{is_good}
use Rattle.execsim.proofs.machine.Machine.run.Goals as goal

pub events-requires : goal.events-requires
events-requires g c = time_from_start _
    (λ good. record {
      known = c.self.invariant.0 (ap (λ (x : Shown). x.failed) c.self.view_is ∙ c.requires.going);
      time = subst (λ (x : Shown). HasTimeFor (sum_by event_ticks c.args.list.now) x.seen) (sym c.self.view_is) c.requires.time;
    })
    (while_good (ap is_good c.requires.good) c.start.ensures)

-- (until it has failed it shows a state after a run)
pub invariant_of-self : goal.invariant_of-self
invariant_of-self g c = (
  λ going. known_after_action (run_reached c.args.list.now)
      (c.self.invariant.0 (ap (λ (x : Shown). x.failed) c.self.view_is ∙ c.requires.going))
      (while_good_then (while_good (ap is_good c.requires.good) c.start.ensures) c.events.ensures) (rw c.is_stopped-stopped.ensures at c.flow_or_fault.ensures) going,
  not_known,
)

pub returns : goal.returns
returns g c = rw (← c.self.view_is) (acts_by (while_good_then (while_good (ap is_good c.requires.good) c.start.ensures) c.events.ensures) c.requires.good
    (rw c.is_stopped-stopped.ensures at c.flow_or_fault.ensures))
