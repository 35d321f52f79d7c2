-- The names so far are those of the tasks so far.
use Rattle.std.proofs.Common.{◌≡◌, take, map}
use Rattle.taskq.proofs.names.names_of.Given as goal

abbrev pub invariant-loop-task : goal.invariant-loop-task
invariant-loop-task l = l.names.items ≡ map (λ t. t.name) (take l.task-index l.tasks)
