-- The tasks with the running one waiting for a semaphore are those of `waits_at_semaphore`.
use Rattle.std.proofs.Common.{ap, ◌∙◌}
use Rattle.scheduler.specs.Schedule.{waits_at_semaphore}
use Rattle.scheduler.proofs.ScheduleLemmas.{slept_at_semaphore}
use Rattle.scheduler.proofs.Sched.wait_at_semaphore.Goals as goal

pub returns-clause-next : goal.returns-clause-next
returns-clause-next g c =
    let e = c.block.ensures in
    slept_at_semaphore _ c.block.new.self c.args.t e.ready e.states e.pris e.names ∙ ap (waits_at_semaphore c.args.t) c.self.view_is
