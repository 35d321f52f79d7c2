-- The running task is one of the file.
use Rattle.scheduler.proofs.ScheduleLemmas.{runner_known}
use Rattle.scheduler.proofs.Sched.may_interrupt.Goals as goal

pub allows_interrupt-requires : goal.allows_interrupt-requires
allows_interrupt-requires g c = rw (← c.self.view_is) (runner_known _ _ _ _ _ c.self.invariant.0 c.in-Some.is)
