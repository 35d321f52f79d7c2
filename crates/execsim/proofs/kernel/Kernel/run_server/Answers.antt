-- The proof of `Kernel::run_server`: server k runs its whole body.
use Rattle.std.proofs.Common.{ap, ◌∙◌}
use Rattle.execmodel.specs.Interrupts.{server_at}
use Rattle.execsim.specs.Agreement.{Seen}
use Rattle.execsim.proofs.BodyCalls.{server_as}
use Rattle.execsim.proofs.kernel.Kernel.run_server.Goals as goal

pub returns : goal.returns
returns g c =
    let named = c.name-name.ensures ∙ ap (λ (m : Seen). (server_at c.args.k m.bodies).name) c.self.view_is in
    server_as _ (rw named at c.hear.ensures) (rw named at c.run_body.ensures)
