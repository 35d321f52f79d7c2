-- The proof of `Kernel::end_silently_by`: a word that is not a call of Exec answers, and prints nothing, in a task or
-- in a body.
use Rattle.std.proofs.Common.{[], refl}
use Rattle.execsim.specs.Views.{call_view}
use Rattle.execsim.proofs.kernel.Kernel.end_silently_by.Goals as goal

pub returns-in-Task : goal.returns-in-Task
returns-in-Task g c = rw c.in-Task.is c.end_silently.ensures

pub returns-in-Body : goal.returns-in-Body
returns-in-Body g c = rw c.in-Body.is (c.end_silently_in_body.ensures [] (call_view c.args.call.now) refl)
