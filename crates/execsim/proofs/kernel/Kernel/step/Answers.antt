-- The proof of `Kernel::step`: one step.
use Rattle.execsim.proofs.Stepping.{step_as}
use Rattle.execsim.proofs.kernel.Kernel.step.Goals as goal

pub returns-clause-follows : goal.returns-clause-follows
returns-clause-follows g c = step_as c.act.ensures c.settle_after_step.ensures.follows
