-- What the readers of a machine answer, by what its layers show.
use Rattle.std.specs.Prelude.{ℕ, nat_lt, ◌||◌, if◌then◌else◌, is_some, length, Option, None, Some}
use Rattle.scheduler.specs.{Schedule.task_count, Status.status_seen}
use Rattle.execmodel.specs.{Feeding.without_call, State.program_of}
use Rattle.execsim.specs.{declared.machine.readers.MachineView.MachineView, declared.machine.readers.TaskView.TaskView, Actions.softint_seen, Agreement.Seen}

-- what is seen of task t
abbrev pub task_view : ℕ → Seen → TaskView
task_view t seen =
    let status = status_seen seen.schedule t in
    record {
      state = status.state;
      pri = status.pri;
      received = status.received;
      allocated = status.allocated;
      forbids = status.forbids;
      disables = status.disables;
      place = (program_of seen.scripts t).place;
    }

-- the same, if there is such a task
abbrev pub task_seen : ℕ → Seen → Option TaskView
task_seen t seen = if nat_lt t (length seen.scripts.programs) then Some (task_view t seen) else None

-- the task whose command or end the next step is
abbrev pub actor_seen : Seen → Option ℕ
actor_seen seen = if seen.stopped || is_some (softint_seen seen) then None else seen.schedule.running

-- the task that the next step finds at the end of its body
abbrev pub end_seen : Seen → Option ℕ
end_seen seen = if seen.stopped || is_some (softint_seen seen) then None else without_call seen.schedule.running seen.scripts

-- what is seen of the machine beside its tasks and its memory
abbrev pub machine_view : Seen → MachineView
machine_view seen = record {
  tasks = task_count seen.schedule;
  running = seen.schedule.running;
  quantum_left = seen.schedule.left;
  clock = seen.memory.timer.clock;
  system_time = seen.memory.timer.system;
  latches = seen.pending.latches;
  stopped = seen.stopped;
}
