-- What holds in the loops of `programs_of`: the programs of the tasks, in the order of the file.
use Rattle.std.proofs.Common.{◌≡◌, map, take}
use Rattle.script.specs.Records.{task_view}
use Rattle.execmodel.specs.State.{new_program}
use Rattle.execsim.proofs.boot.programs_of.Given as goal

-- the tasks so far have their programs
abbrev pub invariant-loop-task : goal.invariant-loop-task
invariant-loop-task l = l.programs.items ≡ map new_program (map task_view (take l.task-index l.tasks))
