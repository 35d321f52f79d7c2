-- The tasks with a ready one running are those of `begins`.
use Rattle.std.proofs.Common.{ap, ◌∙◌}
use Rattle.scheduler.specs.Schedule.{begins}
use Rattle.scheduler.proofs.ScheduleLemmas.{begun}
use Rattle.scheduler.proofs.Sched.begin.Goals as goal

pub returns-clause-next : goal.returns-clause-next
returns-clause-next g c =
    let e = c.run.ensures in
    begun _ c.run.new.self c.args.t e.ready e.states e.pris e.names ∙ ap (begins c.args.t) c.self.view_is
