-- The proof of `Kernel::end_silently_in_body`: a word that is not a call of Exec answers, into its target if it has
-- one, and prints nothing, in the body of any name.
use Rattle.execsim.proofs.BodyCalls.{silently}
use Rattle.execsim.proofs.kernel.Kernel.end_silently_in_body.Goals as goal

pub returns : goal.returns
returns g c name call same = silently name call c.args.target c.args.value c.store_in_body.ensures same
