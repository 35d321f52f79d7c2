-- The running task is one of the file, and the switch rests on what its nesting and the priorities say.
use Rattle.scheduler.proofs.ScheduleLemmas.{runner_known}
use Rattle.scheduler.proofs.Sched.gives_way.Goals as goal

pub allows_switch-requires : goal.allows_switch-requires
allows_switch-requires g c = rw (← c.self.view_is) (runner_known _ _ _ _ _ c.self.invariant.0 c.in-Some.is)

pub takes_over-requires-clause-running_known : goal.takes_over-requires-clause-running_known
takes_over-requires-clause-running_known g c = rw (← c.self.view_is) (runner_known _ _ _ _ _ c.self.invariant.0 c.in-Some.is)
