-- The running task, if any, is one of the file.
use Rattle.scheduler.proofs.ScheduleLemmas.{running_known}
use Rattle.scheduler.proofs.Sched.running.Goals as goal

pub returns-clause-known : goal.returns-clause-known
returns-clause-known g c = rw (← c.self.view_is) (running_known _ _ _ _ c.self.invariant.0)
