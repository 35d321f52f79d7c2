-- What C is shown of a machine and of a task: numbers.
use Rattle.std.specs.Prelude.{ℕ, ◌+◌, ◌*◌, ◌-◌, ◌^◌, Bool, true, false, Option, None, Some}
use Rattle.taskq.specs.declared.TaskState.TheVariants.{Absent, Ready, Running, Waiting, Removed}
use Rattle.taskq.specs.{declared.TaskState.TaskState, declared.Why.TheVariants.Signals, declared.Why.TheVariants.Sem}
use Rattle.softint.specs.declared.latches.Latches.{Latches}
use Rattle.execsim.specs.{declared.machine.readers.MachineView.MachineView, declared.machine.readers.TaskView.TaskView}
use Rattle.execsim_c.specs.{declared.shown.MachineShown.MachineShown, declared.shown.TaskShown.TaskShown}

-- a task's number; the greatest number of 64 bits for none
abbrev pub number_shown : Option ℕ → ℕ
number_shown None = 2 ^ 64 - 1
number_shown (Some t) = t

abbrev pub bit : Bool → ℕ
bit true = 1
bit false = 0

-- PORTS is bit 0, VERTB bit 1, EXTER bit 2
abbrev pub latches_shown : Latches → ℕ
latches_shown latches = bit latches.ports + 2 * bit latches.vertb + 4 * bit latches.exter

abbrev pub state_shown : TaskState → ℕ
state_shown Absent = 0
state_shown Ready = 1
state_shown Running = 2
state_shown (Waiting (Signals mask)) = 3
state_shown (Waiting Sem) = 4
state_shown Removed = 5

-- the signals that a task waits for
abbrev pub waits_shown : TaskState → ℕ
waits_shown (Waiting (Signals mask)) = mask
waits_shown _ = 0

abbrev pub machine_shown : MachineView → MachineShown
machine_shown view = record {
  clock = view.clock;
  system_time = view.system_time;
  tasks = view.tasks;
  running = number_shown view.running;
  quantum_left = view.quantum_left;
  latches = latches_shown view.latches;
  stopped = bit view.stopped;
}

abbrev pub task_shown : TaskView → TaskShown
task_shown view = record {
  place = view.place;
  state = state_shown view.state;
  waits_for = waits_shown view.state;
  received = view.received;
  allocated = view.allocated;
  priority = view.pri;
  forbids = view.forbids;
  disables = view.disables;
}
