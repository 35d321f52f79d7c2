-- The proof of `Kernel::request`: an interrupt is requested, and the machine settles; a stopped machine does nothing.
use Rattle.std.proofs.Common.{ap, sym, ◌∙◌}
use Rattle.execsim.specs.Agreement.{Seen}
use Rattle.execsim.proofs.Stepping.{request_stopped, request_going}
use Rattle.execsim.proofs.kernel.Kernel.request.Goals as goal

pub returns-then-not-self : goal.returns-then-not-self
returns-then-not-self g c = request_going _ (ap (λ (m : Seen). m.stopped) (sym c.self.view_is) ∙ c.if-not-self.true) c.latch.ensures c.settle.ensures

pub returns-else-not-self : goal.returns-else-not-self
returns-else-not-self g c = request_stopped _ _ (ap (λ (m : Seen). m.stopped) (sym c.self.view_is) ∙ c.if-not-self.false)
