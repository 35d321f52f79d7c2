-- The proof of `Machine::advance`: does a step, and after it steps that print nothing.
use Rattle.std.proofs.Common.{ap, sym, ◌∙◌, subst}
use Rattle.execsim.specs.{Headline.Shown, Time.HasTimeFor}
use Rattle.execsim.proofs.{Advancing.advances_by, Advancing.known_after_steps, Advancing.time_stays, Reached.in_order_there}
use Rattle.exectrace.specs.Printing.{is_good}
use Rattle.execsim.proofs.machine.Machine.advance.Goals as goal

pub advance-silent-requires-clause-agree : goal.advance-silent-requires-clause-agree
advance-silent-requires-clause-agree g c = in_order_there _ (c.self.invariant.0 (ap (λ (x : Shown). x.failed) c.self.view_is ∙ c.requires.going))

pub advance-silent-requires-clause-settled : goal.advance-silent-requires-clause-settled
advance-silent-requires-clause-settled g c = c.self.invariant.1

-- (until it has failed it shows a state after some steps)
pub invariant_of-self : goal.invariant_of-self
invariant_of-self g c = (
  λ going. known_after_steps c.advance-silent.ensures.steps
      (c.self.invariant.0 (ap (λ (x : Shown). x.failed) c.self.view_is ∙ c.requires.going)),
  c.advance-silent.ensures.settled,
)

pub returns-clause-advances : goal.returns-clause-advances
returns-clause-advances g c =
    rw (← c.self.view_is) (advances_by c.advance-silent.ensures.steps c.advance-silent.ensures.within c.requires.good c.steps_or_fault.ensures)

pub returns-clause-time_left : goal.returns-clause-time_left
returns-clause-time_left g c = λ whole ticks enough.
    time_stays c.advance-silent.ensures.steps (c.self.invariant.0 (ap (λ (x : Shown). x.failed) c.self.view_is ∙ c.requires.going)) (ap is_good c.requires.good)
    (ap is_good (c.steps_or_fault.ensures.written.0 whole)) ticks (subst (λ (x : Shown). HasTimeFor ticks x.seen) (sym c.self.view_is) enough)
