-- A machine to which a task is added.
use Rattle.std.specs.Prelude.{ℕ, suc, ℤ, List, [], ◌∷◌, ◌++◌, false}
use Rattle.script.specs.File.{TaskData}
use Rattle.scheduler.specs.Joining.{joined_by}
use Rattle.execmodel.specs.State.{new_program}
use Rattle.execsim.specs.Agreement.{Seen}

-- a task of that name and that priority, which does not start with the machine, and whose body is empty
abbrev pub new_task : List ℕ → ℤ → TaskData
new_task name pri = record { name = name; pri = pri; start = false; code = [] }

-- what a machine shows with one more task after the others, which was never added
abbrev pub seen_with_new : TaskData → Seen → Seen
seen_with_new task seen = record seen {
  schedule = joined_by task.pri task.name seen.schedule;
  scripts = record seen.scripts { programs = seen.scripts.programs ++ new_program task ∷ [] };
  memory = record seen.memory { tasks = suc seen.memory.tasks };
}
