-- The proof of `Kernel::some_steps`: one step, and those after it that ask nothing of Exec.
use Rattle.execsim.proofs.Settling.{just_one, step_then}
use Rattle.execsim.proofs.kernel.Kernel.some_steps.Goals as goal

pub returns-then-step-clause-follows : goal.returns-then-step-clause-follows
returns-then-step-clause-follows g c = step_then c.plain_steps.result c.step.ensures.follows c.plain_steps.ensures.follows

pub returns-else-step-clause-follows : goal.returns-else-step-clause-follows
returns-else-step-clause-follows g c = just_one c.step.ensures.follows
