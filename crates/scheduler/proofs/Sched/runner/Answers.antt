-- The running task is one of the file, and it is in the state of running.
use Rattle.scheduler.proofs.ScheduleLemmas.{runner_known, runner_runs}
use Rattle.scheduler.proofs.Sched.runner.Goals as goal

pub returns-clause-known : goal.returns-clause-known
returns-clause-known g c = rw (← c.self.view_is) (runner_known _ _ _ _ _ c.self.invariant.0 c.in-Some.is)

pub returns-clause-runs : goal.returns-clause-runs
returns-clause-runs g c = rw (← c.self.view_is) (runner_runs _ _ _ _ _ c.self.invariant.0 c.in-Some.is)
