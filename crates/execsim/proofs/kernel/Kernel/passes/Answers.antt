-- The proof of `Kernel::passes`: a call that releases a semaphore: the new owner, if there is one, becomes ready; or
-- the call is refused by its alert.
use Rattle.execsim.proofs.Obtaining.{passed_on}
use Rattle.execsim.proofs.kernel.Kernel.passes.Goals as goal

pub returns-in-Some : goal.returns-in-Some
returns-in-Some g c = rw (c.in-Ok.is, c.in-Some.is) (passed_on _ _ _ _ c.wake.ensures c.end_call.ensures)
