-- The proof of `Machine::event`: does one event: that many steps or ticks, each followed by a settle, or a request of
-- an interrupt, followed by one.
use Rattle.std.proofs.Common.{◌+◌, sym, subst}
use Rattle.script.specs.Events.{event_ticks}
use Rattle.execsim.specs.{Headline.Shown, Reached.after_event, Time.HasTimeFor}
use Rattle.execsim.proofs.{Acting.known_after_action, Acting.time_after, Clock.event_gains, Advancing.not_known}
use Rattle.execsim.proofs.machine.Machine.event.Goals as goal

-- (until it has failed it shows a state after an event)
pub invariant_of-self : goal.invariant_of-self
invariant_of-self g c = (
  λ going. known_after_action (after_event c.args.one) (c.self.invariant.0 c.if-self.false) c.event.ensures
      (rw c.is_stopped-stopped.ensures at c.flow_or_fault.ensures) going,
  not_known,
)

pub returns-clause-time_left : goal.returns-clause-time_left
returns-clause-time_left g c = λ going whole ticks enough.
    time_after (event_ticks c.args.one) (event_gains c.args.one) (after_event c.args.one) (c.self.invariant.0 c.if-self.false) c.event.ensures
    (rw c.is_stopped-stopped.ensures at c.flow_or_fault.ensures) whole ticks
    (subst (λ (x : Shown). HasTimeFor (event_ticks c.args.one + ticks) x.seen) (sym c.self.view_is) enough)
