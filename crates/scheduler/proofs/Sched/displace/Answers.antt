-- The running task runs, and the tasks with it ready are those of `displaced`.
use Rattle.std.proofs.Common.{ap, ◌∙◌, None}
use Rattle.execlist.specs.Disciplines.{by_priority}
use Rattle.scheduler.specs.{Schedule.Schedule, Dispatch.displaced}
use Rattle.scheduler.proofs.ScheduleLemmas.{runner_runs, displaced_is}
use Rattle.scheduler.proofs.Sched.displace.Goals as goal

pub put_back-requires : goal.put_back-requires
put_back-requires g c = runner_runs _ _ _ _ _ c.self.invariant.0 c.in-Some.is

pub returns-in-Some-clause-next : goal.returns-in-Some-clause-next
returns-in-Some-clause-next g c =
    displaced_is _ _ c.in-Some.r c.in-Some.is c.put_back.ensures
    ∙ ap (λ (s : Schedule). record (displaced by_priority s.running s) { running = None }) c.self.view_is
