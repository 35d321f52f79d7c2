-- The tasks with the running one waiting are those of `waits_for`.
use Rattle.std.proofs.Common.{ap, ◌∙◌}
use Rattle.scheduler.specs.Schedule.{waits_for}
use Rattle.scheduler.proofs.ScheduleLemmas.{slept}
use Rattle.scheduler.proofs.Sched.sleep.Goals as goal

pub returns-clause-next : goal.returns-clause-next
returns-clause-next g c =
    let e = c.block.ensures in
    slept _ c.block.new.self c.args.t c.args.mask e.ready e.states e.pris e.names ∙ ap (waits_for c.args.t c.args.mask) c.self.view_is
