-- The proof of `Kernel::act`: what a step does before the machine settles; a stopped machine does nothing.
use Rattle.std.proofs.Common.{ap, sym, ◌∙◌}
use Rattle.execsim.specs.Agreement.{Seen}
use Rattle.execsim.proofs.Stepping.{acts_stopped, acts_going}
use Rattle.execsim.proofs.kernel.Kernel.act.Goals as goal

pub returns-then-not-self : goal.returns-then-not-self
returns-then-not-self g c = acts_going (ap (λ (m : Seen). m.stopped) (sym c.self.view_is) ∙ c.if-not-self.true) c.run_one.ensures

pub returns-else-not-self : goal.returns-else-not-self
returns-else-not-self g c = acts_stopped _ (ap (λ (m : Seen). m.stopped) (sym c.self.view_is) ∙ c.if-not-self.false)
