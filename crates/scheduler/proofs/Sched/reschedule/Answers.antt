-- A settled schedule is what rescheduling makes of it.
use Rattle.scheduler.proofs.Settling.{settled_known}
use Rattle.scheduler.proofs.Sched.reschedule.Goals as goal

pub returns-then-self-clause-answer : goal.returns-then-self-clause-answer
returns-then-self-clause-answer g c = (settled_known _ _ _ c.if-self.true c.self.invariant.1 c.self.view_is).0

pub returns-then-self-clause-next : goal.returns-then-self-clause-next
returns-then-self-clause-next g c = (settled_known _ _ _ c.if-self.true c.self.invariant.1 c.self.view_is).1
