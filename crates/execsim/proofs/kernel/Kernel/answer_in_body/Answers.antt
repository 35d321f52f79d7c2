-- The proof of `Kernel::answer_in_body`: the call answers, into its target if it has one, and the body goes on.
use Rattle.std.proofs.Common.{refl}
use Rattle.execmodel.specs.Calls.{stored_shared}
use Rattle.execsim.specs.Views.{call_view}
use Rattle.execsim.proofs.Following.{follows_saying, moves_scripts}
use Rattle.execsim.proofs.kernel.Kernel.answer_in_body.Goals as goal

pub returns : goal.returns
returns g c = follows_saying _ (λ s e. refl) c.say_in_body.ensures (moves_scripts (stored_shared (call_view c.args.call.now).target c.args.value) c.store_in_body.ensures)
