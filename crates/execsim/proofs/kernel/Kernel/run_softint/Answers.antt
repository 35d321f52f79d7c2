-- The proof of `Kernel::run_softint`: a software interrupt, which is not caused any more, runs its whole body.
use Rattle.std.proofs.Common.{ap, ◌∙◌}
use Rattle.execmodel.specs.Interrupts.{softint_at}
use Rattle.execsim.specs.Agreement.{Seen}
use Rattle.execsim.proofs.BodyCalls.{softint_as}
use Rattle.execsim.proofs.kernel.Kernel.run_softint.Goals as goal

pub returns : goal.returns
returns g c =
    let named = c.name-name.ensures ∙ ap (λ (m : Seen). (softint_at c.args.i m.bodies).name) c.self.view_is in
    softint_as _ (rw named at c.hear.ensures) (rw named at c.run_body.ensures)
