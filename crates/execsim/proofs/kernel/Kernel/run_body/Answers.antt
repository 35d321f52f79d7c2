-- The proof of `Kernel::run_body`: a whole body: its commands one after another; after an alert there is no other.
use Rattle.std.proofs.Common.{refl}
use Rattle.execsim.specs.Views.{code_of_body}
use Rattle.execsim.proofs.BodyCalls.{more_commands, no_command}
use Rattle.execsim.proofs.kernel.Kernel.run_body.Goals as goal

pub loop-place-init : goal.loop-place-init
loop-place-init g c = no_command c.args.self.now _ (code_of_body c.args.body c.args.self.now.bodies) _

pub loop-place-preserved : goal.loop-place-preserved
loop-place-preserved g c = more_commands _ _ _ _ refl c.loop-place.invariant c.do_place.ensures
