-- A running task is not among the ready ones, so these stay as they are.
use Rattle.std.proofs.Common.{ap, ◌∙◌}
use Rattle.scheduler.specs.Schedule.{leaves}
use Rattle.scheduler.proofs.ScheduleLemmas.{runner_runs, retired}
use Rattle.scheduler.proofs.Sched.retire.Goals as goal

pub returns-clause-next : goal.returns-clause-next
returns-clause-next g c =
    let e = c.remove.ensures in
    let running = runner_runs _ _ _ _ c.args.r c.self.invariant.0 (ap (λ s. s.running) c.self.view_is ∙ c.requires) in
    retired _ c.remove.new.self c.args.r running (c.facts.ensures.ready c.args.r) e.ready e.states e.pris e.names
    ∙ ap (leaves c.args.r) c.self.view_is
