-- The tasks with one more ready one are those of `arrives`.
use Rattle.std.proofs.Common.{ap, ◌∙◌}
use Rattle.execlist.specs.Disciplines.{by_priority}
use Rattle.scheduler.specs.Dispatch.{arrives}
use Rattle.scheduler.proofs.ScheduleLemmas.{arrived}
use Rattle.scheduler.proofs.Sched.arrive.Goals as goal

pub returns-clause-next : goal.returns-clause-next
returns-clause-next g c =
    let e = c.make_ready.ensures in
    arrived _ c.make_ready.new.self c.args.t e.ready e.states e.pris e.names ∙ ap (arrives by_priority c.args.t) c.self.view_is
