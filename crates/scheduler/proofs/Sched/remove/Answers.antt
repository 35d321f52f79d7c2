-- The tasks with one of them removed are those of `removed`.
use Rattle.std.proofs.Common.{ap, ◌∙◌}
use Rattle.scheduler.specs.Schedule.{task_removed}
use Rattle.scheduler.proofs.ScheduleLemmas.{removed_is}
use Rattle.scheduler.proofs.Sched.remove.Goals as goal

pub returns-clause-next : goal.returns-clause-next
returns-clause-next g c =
    let e = c.remove.ensures in
    removed_is _ c.remove.new.self c.args.t e.ready e.states e.pris e.names ∙ ap (task_removed c.args.t) c.self.view_is
