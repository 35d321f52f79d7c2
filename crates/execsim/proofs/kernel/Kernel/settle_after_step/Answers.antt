-- The proof of `Kernel::settle_after_step`: what follows each step.
use Rattle.std.proofs.Common.{ap, sym, ◌∙◌}
use Rattle.execsim.specs.Agreement.{Seen}
use Rattle.execsim.proofs.Stepping.{settle_stopped}
use Rattle.execsim.proofs.kernel.Kernel.settle_after_step.Goals as goal

pub returns-then-self-clause-follows : goal.returns-then-self-clause-follows
returns-then-self-clause-follows g c = settle_stopped _ (ap (λ (m : Seen). m.stopped) (sym c.self.view_is) ∙ c.if-self.true)

pub switch_if_due-requires-clause-going : goal.switch_if_due-requires-clause-going
switch_if_due-requires-clause-going g c = ap (λ (m : Seen). m.stopped) (sym c.self.view_is) ∙ c.if-self.false

pub switch_if_due-requires-clause-unasked : goal.switch_if_due-requires-clause-unasked
switch_if_due-requires-clause-unasked g c = rw c.any_latched.ensures at c.if-any_latched.false
