-- What distinguishes the states of a machine, as numbers: who runs and for how long, what is pending, what each task is
-- about, and the variables. What stays over a run is left out; so are the memory and the clock.
use Rattle.std.specs.Prelude.{ℕ, zero, suc, ◌+◌, ℤ, pos, negsuc, Bool, true, false, List, [], ◌∷◌, ◌++◌, Option, None, Some, length}
use Rattle.exectrace.specs.Trace.{Argument, Value, Quoted}
use Rattle.script.specs.declared.variable.Variable.{Variable}
use Rattle.script.specs.declared.variable.Variable.TheVariants.{Private, Shared}
use Rattle.taskq.specs.declared.TaskState.{TaskState}
use Rattle.taskq.specs.declared.TaskState.TheVariants.{Absent, Ready, Running, Waiting, Removed}
use Rattle.taskq.specs.declared.Why.{Why}
use Rattle.taskq.specs.declared.Why.TheVariants.{Signals, Sem}
use Rattle.scheduler.specs.Schedule.{Schedule, status_of, priority_of, signals_of, nesting_of}
use Rattle.execmodel.specs.State.{Call, Pending, Scripts, program_of}

-- ---- parts

abbrev pub bool_number : Bool → ℕ
bool_number false = 0
bool_number true = 1

-- 0, 1, 2, .. are even, and -1, -2, .. odd
abbrev pub int_number : ℤ → ℕ
int_number (pos n) = n + n
int_number (negsuc n) = suc (n + n)

-- none, or a number
abbrev pub option_number : Option ℕ → ℕ
option_number None = 0
option_number (Some n) = suc n

-- the items of a list, each one greater, and 0 after the last
abbrev pub list_numbers : List ℕ → List ℕ
list_numbers [] = 0 ∷ []
list_numbers (n ∷ rest) = suc n ∷ list_numbers rest

-- ---- tasks

abbrev pub why_number : Why → ℕ
why_number (Signals mask) = 5
why_number Sem = 4

-- the state of a task
abbrev pub state_number : TaskState → ℕ
state_number Absent = 0
state_number Ready = 1
state_number Running = 2
state_number Removed = 3
state_number (Waiting why) = why_number why

abbrev pub mask_of : Why → ℕ
mask_of (Signals mask) = mask
mask_of Sem = 0

-- the signals that a task of that state waits for
abbrev pub mask_number : TaskState → ℕ
mask_number (Waiting why) = mask_of why
mask_number _ = 0

-- where an answer goes
abbrev pub target_numbers : Option Variable → List ℕ
target_numbers None = 0 ∷ 0 ∷ []
target_numbers (Some (Private k)) = 1 ∷ k ∷ []
target_numbers (Some (Shared k)) = 2 ∷ k ∷ []

-- arguments, and 0 after the last
abbrev pub argument_numbers : List Argument → List ℕ
argument_numbers [] = 0 ∷ []
argument_numbers (Value n ∷ rest) = 1 ∷ n ∷ argument_numbers rest
argument_numbers (Quoted name ∷ rest) = 2 ∷ (list_numbers name ++ argument_numbers rest)

-- the call that a task waits in, if it does
abbrev pub kept_numbers : Option Call → List ℕ
kept_numbers None = 0 ∷ []
kept_numbers (Some call) = 1 ∷ (target_numbers call.target ++ (call.next ∷ call.awaited ∷ argument_numbers call.arguments))

-- task t
abbrev pub task_numbers : ℕ → Schedule → Scripts → List ℕ
task_numbers t schedule scripts =
    state_number (status_of schedule t) ∷ mask_number (status_of schedule t) ∷ int_number (priority_of schedule t)
    ∷ (signals_of schedule t).received ∷ (signals_of schedule t).allocated
    ∷ int_number (nesting_of schedule t).forbids ∷ int_number (nesting_of schedule t).disables ∷ (program_of scripts t).place
    ∷ (list_numbers (program_of scripts t).variables ++ kept_numbers (program_of scripts t).kept)

-- the first n tasks
abbrev pub tasks_numbers : ℕ → Schedule → Scripts → List ℕ
tasks_numbers zero schedule scripts = []
tasks_numbers (suc t) schedule scripts = tasks_numbers t schedule scripts ++ task_numbers t schedule scripts

-- ---- the whole

abbrev pub numbers : Schedule → Scripts → Pending → List ℕ
numbers schedule scripts pending =
    option_number schedule.running ∷ schedule.left ∷ bool_number pending.latches.ports ∷ bool_number pending.latches.vertb
    ∷ bool_number pending.latches.exter
    ∷ (list_numbers schedule.queue.ready ++ (list_numbers pending.caused ++ (list_numbers scripts.shared
    ++ tasks_numbers (length scripts.programs) schedule scripts)))
