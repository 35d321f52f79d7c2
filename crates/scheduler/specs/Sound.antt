-- What is true of every schedule: the lists have one length, and the running task alone is in the state of running.
use Rattle.std.specs.Prelude.{◌≡◌, ℕ, Bool, false, true, ◌==◌, List, length, Option, Some, None}
use Rattle.taskq.specs.declared.TaskState.TheVariants.{Absent, Ready, Running, Waiting, Removed}
use Rattle.taskq.specs.{Tasks.state_at, declared.TaskState.TaskState}
use Rattle.signals.specs.Signals.{SignalSets}
use Rattle.forbid.specs.Nesting.{Nesting}
use Rattle.scheduler.specs.{declared.Switch.Switch, declared.Switch.TheVariants.To, declared.Switch.TheVariants.Idle}

-- a task of that state runs
abbrev pub is_running : TaskState → Bool
is_running Absent = false
is_running Ready = false
is_running Running = true
is_running (Waiting why) = false
is_running Removed = false

-- a task of that state neither is ready, nor runs, nor has ended
abbrev pub is_stopped : TaskState → Bool
is_stopped Absent = true
is_stopped Ready = false
is_stopped Running = false
is_stopped (Waiting why) = true
is_stopped Removed = false

-- if a switch is to a task, it is to a ready one
abbrev pub IsToReady : Option Switch → List TaskState → Type 0
IsToReady None states = Unit {0}
IsToReady (Some Idle) states = Unit {0}
IsToReady (Some (To t)) states = state_at states t ≡ Ready

-- a task or none is that task
abbrev pub is_task : Option ℕ → ℕ → Bool
is_task None t = false
is_task (Some r) t = r == t

-- each task has signals and a nesting, and exactly the running task is in the state of running
pub record IsSoundSchedule (states : List TaskState) (running : Option ℕ) (signals : List SignalSets) (nestings : List Nesting) : Type 0 where
  pub signals_of_each : length signals ≡ length states
  pub nestings_of_each : length nestings ≡ length states
  pub one_runs : (t : ℕ) → is_running (state_at states t) ≡ is_task running t
