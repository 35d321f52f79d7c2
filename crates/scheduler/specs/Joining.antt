-- A schedule to which a task is joined.
use Rattle.std.specs.Prelude.{ℕ, ℤ, List, [], ◌∷◌, ◌++◌}
use Rattle.taskq.specs.declared.TaskState.TheVariants.{Absent}
use Rattle.signals.specs.Signals.{initial_sets}
use Rattle.forbid.specs.Nesting.{initial_nesting}
use Rattle.scheduler.specs.Schedule.{Schedule}

-- a schedule with one more task after the others, which was never added
abbrev pub joined_by : ℤ → List ℕ → Schedule → Schedule
joined_by pri name s = record s {
  queue = record s.queue {
    states = s.queue.states ++ Absent ∷ [];
    pris = s.queue.pris ++ pri ∷ [];
    names = s.queue.names ++ name ∷ [];
  };
  signals = s.signals ++ initial_sets ∷ [];
  nestings = s.nestings ++ initial_nesting ∷ [];
}
