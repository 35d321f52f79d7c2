-- The proof of `Machine::start`: starts the machine: its tasks are added in the order of the file, and it settles once.
use Rattle.std.proofs.Common.{◌≡◌, ℕ, ◌+◌, ap, sym, subst, ◌∙◌, arith}
use Rattle.execsim.specs.{Headline.Shown, Reached.after_start, Time.HasTimeFor}
use Rattle.execsim.proofs.{Acting.known_after_action, Acting.time_after, Clock.start_gains, Following.while_good, Advancing.not_known}
use Rattle.exectrace.specs.Printing.{is_good}
use Rattle.execsim.proofs.machine.Machine.start.Goals as goal

-- (until it has failed it shows a state after a start)
pub invariant_of-self : goal.invariant_of-self
invariant_of-self g c = (
  λ going. known_after_action after_start (c.self.invariant.0 c.if-self.false)
      (while_good (ap is_good (c.requires (ap (λ (x : Shown). x.failed) (sym c.self.view_is) ∙ c.if-self.false))) c.start.ensures)
      (rw c.is_stopped-stopped.ensures at c.flow_or_fault.ensures) going,
  not_known,
)

-- (a start brings no ticks)
pub returns-clause-time_left : goal.returns-clause-time_left
returns-clause-time_left g c = λ going whole ticks enough.
    time_after 0 start_gains after_start (c.self.invariant.0 c.if-self.false)
    (while_good (ap is_good (c.requires going)) c.start.ensures)
    (rw c.is_stopped-stopped.ensures at c.flow_or_fault.ensures) whole ticks
    (let none : ticks ≡ 0 + ticks = omega arith in
    subst (λ (x : Shown). HasTimeFor (0 + ticks) x.seen) (sym c.self.view_is)
    (subst (λ (n : ℕ). HasTimeFor n c.args.self.now.seen) none enough))
