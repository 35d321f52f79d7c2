-- The proof of `Kernel::advance`: one step, and those after it that print nothing.
use Rattle.execsim.proofs.Advancing.{goes_nowhere}
use Rattle.execsim.proofs.kernel.Kernel.advance.Goals as goal

pub returns-else-next_step-clause-steps : goal.returns-else-next_step-clause-steps
returns-else-next_step-clause-steps g c = record { between = _; first = c.next_step.ensures.follows; others = goes_nowhere _ }
