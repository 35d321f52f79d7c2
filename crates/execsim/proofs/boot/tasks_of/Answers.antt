-- The schedule is that of the names and priorities of the tasks.
use Rattle.execsim.proofs.boot.tasks_of.Goals as goal

pub returns-clause-schedule : goal.returns-clause-schedule
returns-clause-schedule g c = rw (c.deref.ensures.value, c.in_ok-inits.ensures.count, c.in_ok-inits.ensures.pris, c.in_ok-inits.ensures.names) at c.in_ok-sched.ensures
