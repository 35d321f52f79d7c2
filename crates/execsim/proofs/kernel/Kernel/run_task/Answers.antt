-- The proof of `Kernel::run_task`: the running task does one command; if none runs, the step is used up.
use Rattle.std.proofs.Common.{sym, ◌∙◌}
use Rattle.execsim.proofs.Stepping.{running_none}
use Rattle.execsim.proofs.kernel.Kernel.run_task.Goals as goal

pub returns-in-None : goal.returns-in-None
returns-in-None g c = running_none _ (sym c.running.ensures.value ∙ c.in-None.is)
