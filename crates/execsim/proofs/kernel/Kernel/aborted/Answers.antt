-- The proof of `Kernel::aborted`: a call that aborts a request: one that was in progress is replied, and 0 is answered,
-- for any other the word of -1; or the call is refused by its alert.
use Rattle.execsim.proofs.Requesting.{aborted_answers}
use Rattle.execsim.proofs.kernel.Kernel.aborted.Goals as goal

pub returns-in-Some : goal.returns-in-Some
returns-in-Some g c = rw (c.in-Ok.is, c.in-Some.is) (aborted_answers _ _ _ c.perform.ensures c.answer.ensures)
