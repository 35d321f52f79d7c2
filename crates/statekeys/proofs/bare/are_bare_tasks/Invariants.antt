-- The words of the first of them are bare.
use Rattle.std.proofs.Common.{All, map, take}
use Rattle.script.specs.{File.TaskData, Records.task_view}
use Rattle.statekeys.specs.Fits.{HasBareWord}
use Rattle.statekeys.proofs.bare.are_bare_tasks.Given as goal

abbrev pub invariant-loop-task : goal.invariant-loop-task
invariant-loop-task l = All (λ (it : TaskData). All HasBareWord it.code) (map task_view (take l.task-index l.tasks))
