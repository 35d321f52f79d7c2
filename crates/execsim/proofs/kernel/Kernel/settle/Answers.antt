-- The proof of `Kernel::settle`: what follows each action; a stopped machine stays as it is.
use Rattle.std.proofs.Common.{ap, sym, ◌∙◌}
use Rattle.execsim.specs.Agreement.{Seen}
use Rattle.execsim.proofs.Stepping.{settle_stopped, settle_going}
use Rattle.execsim.proofs.kernel.Kernel.settle.Goals as goal

pub returns-then-not-self : goal.returns-then-not-self
returns-then-not-self g c = settle_going (ap (λ (m : Seen). m.stopped) (sym c.self.view_is) ∙ c.if-not-self.true) c.serve_and_switch.ensures

pub returns-else-not-self : goal.returns-else-not-self
returns-else-not-self g c = settle_stopped _ (ap (λ (m : Seen). m.stopped) (sym c.self.view_is) ∙ c.if-not-self.false)
