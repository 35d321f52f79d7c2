-- The proof of `Kernel::interrupt`: all that asks is served, if interrupts are allowed.
use Rattle.execsim.proofs.Serving.{nothing_asks}
use Rattle.execsim.proofs.kernel.Kernel.interrupt.Goals as goal

pub returns-else-any_latched : goal.returns-else-any_latched
returns-else-any_latched g c = nothing_asks _ _ (rw c.any_latched.ensures at c.if-any_latched.false)
