-- The proof of `Kernel::lose`: the running task clears its signals of the mask.
use Rattle.execsim.proofs.Porting.{loses_running}
use Rattle.execsim.proofs.kernel.Kernel.lose.Goals as goal

pub returns-clause-runs : goal.returns-clause-runs
returns-clause-runs g c = loses_running _ _ _ _ c.change_signals.ensures.next c.requires
