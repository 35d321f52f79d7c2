-- How the tasks are between two events, as text: who runs, and the call of each task that waits.
use Rattle.std.specs.Prelude.{ℕ, zero, suc, ◌++◌, List, [], Option, None, Some, codes}
use Rattle.std.specs.Option.{option_map_or}
use Rattle.exectrace.specs.Trace.{Call as call_line, Waits, printed_line}
use Rattle.script.specs.Words.{word_text}
use Rattle.taskq.specs.declared.TaskState.TheVariants.{Absent, Ready, Running, Waiting, Removed}
use Rattle.taskq.specs.declared.TaskState.{TaskState}
use Rattle.scheduler.specs.Schedule.{Schedule, task_name, status_of, task_count}
use Rattle.execmodel.specs.State.{Call, Scripts, State, program_of}

-- who runs
abbrev pub runs_text : Option ℕ → Schedule → List ℕ
runs_text None s = codes "idle\n"
runs_text (Some t) s = task_name s t ++ codes " runs\n"

-- the line of a call that waits
abbrev pub waits_line : List ℕ → Call → List ℕ
waits_line name call = printed_line (call_line name (word_text call.word) call.arguments Waits)

-- of a task of this state: the line of the call that it waits in, if it waits
abbrev pub wait_in : TaskState → List ℕ → Option Call → List ℕ
wait_in Absent name kept = []
wait_in Ready name kept = []
wait_in Running name kept = []
wait_in (Waiting why) name kept = option_map_or (waits_line name) kept []
wait_in Removed name kept = []

abbrev pub wait_text : ℕ → Schedule → Scripts → List ℕ
wait_text t schedule scripts = wait_in (status_of schedule t) (task_name schedule t) (program_of scripts t).kept

-- of the first n tasks, in the order of the file
abbrev pub waits_text : ℕ → Schedule → Scripts → List ℕ
waits_text zero schedule scripts = []
waits_text (suc t) schedule scripts = waits_text t schedule scripts ++ wait_text t schedule scripts

-- who runs, and the line of the call of each task that waits, in the order of the file
abbrev pub standing_text : Schedule → Scripts → List ℕ
standing_text schedule scripts = runs_text schedule.running schedule ++ waits_text (task_count schedule) schedule scripts
