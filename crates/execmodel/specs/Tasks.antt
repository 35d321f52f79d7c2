-- How tasks are added and ended, and their priorities (RKM Libraries, Exec Tasks).
use Rattle.std.specs.Prelude.{ℕ, ◌+◌, ◌-◌, ℤ, pos, negsuc, Bool, not, ◌&&◌, ◌||◌, if◌then◌else◌, nat_eq, int_le, codes, List, Option, None, Some, ⊤}
use Rattle.std.specs.Int.{cast_signed, cast_unsigned, w32}
use Rattle.execlist.specs.Disciplines.{by_arrival}
use Rattle.taskq.specs.Tasks.{is_live}
use Rattle.scheduler.specs.{Schedule.Schedule, Schedule.status_of, Schedule.priority_of, Schedule.is_absent, Schedule.leaves, Schedule.task_removed, Schedule.found, Dispatch.added, Dispatch.reprioritized}
use Rattle.script.specs.declared.word.tasks.TaskWord.{TaskWord}
use Rattle.script.specs.declared.word.tasks.TaskWord.TheVariants as word
use Rattle.execmodel.specs.{State.Call, State.Scripts, State.State, State.Outcome, State.on_schedule, State.on_memory, State.on_heap, Calls.argument, Calls.name_argument, Calls.done, Calls.answered, Calls.unless, Signals.is_task, Semaphores.awaited_by, Semaphores.dropped, Semaphores.leaving_queue}
use Rattle.script.specs.declared.alert.Alert.TheVariants as an_alert
use Rattle.script.specs.declared.alert.Alert.{Alert}

-- there is a live task of that number
abbrev pub is_live_task : ℕ → Scripts → Schedule → Bool
is_live_task number scripts schedule = is_task number scripts && is_live (status_of schedule (number - 1))

-- a priority that a task may have: -128 to 127
abbrev pub is_priority : ℤ → Bool
is_priority pri = int_le (negsuc 127) pri && int_le pri (pos 127)

-- the alert of a call on a live task: HANDLE if there is none of that number
abbrev pub live_task_alert : ℕ → Scripts → Schedule → Option Alert
live_task_alert number scripts schedule = if not (is_live_task number scripts schedule) then Some an_alert.Handle else None

-- the alert of SetTaskPri: HANDLE if there is no live task of that number, VALUE if the priority is not one that a task
-- may have
abbrev pub set_task_pri_alert : ℕ → ℤ → Scripts → Schedule → Option Alert
set_task_pri_alert number pri scripts schedule =
    if not (is_live_task number scripts schedule) then Some an_alert.Handle
    else (if not (is_priority pri) then Some an_alert.Value else None)

-- SetTaskPri task pri: the task gets the priority, and its old one is returned; a ready task arrives anew. The priority
-- is read as a signed word, and returned as one (autodoc exec.library/SetTaskPri).
unfoldable pub does_set_task_pri : ℕ → Call → State → Outcome
does_set_task_pri t call s =
    let number = argument 0 call in
    let pri = cast_signed w32 (argument 1 call) in
    unless (set_task_pri_alert number pri s.scripts s.schedule) t call
    (λ s.
    let old = priority_of s.schedule (number - 1) in
    answered t call (cast_unsigned w32 old) (on_schedule (reprioritized by_arrival (number - 1) pri) s)) s

-- the alert of AddTask: HANDLE if there is no task of that number
abbrev pub add_task_alert : ℕ → Scripts → Option Alert
add_task_alert number scripts = if not (is_task number scripts) then Some an_alert.Handle else None

-- AddTask task: a task that was never added is added, and its number is returned; for any other task nothing changes,
-- and 0 is returned (autodoc exec.library/AddTask; that an ended task is not added again: project rule)
unfoldable pub does_add_task : ℕ → Call → State → Outcome
does_add_task t call s =
    let number = argument 0 call in
    unless (add_task_alert number s.scripts) t call
    (λ s.
    let begun = if is_absent (status_of s.schedule (number - 1)) then number else 0 in
    answered t call begun (on_schedule (added by_arrival (number - 1)) s)) s

-- the number names the caller: it is 0, or the caller's own
abbrev pub is_caller : ℕ → ℕ → Bool
is_caller t number = nat_eq number 0 || nat_eq (number - 1) t

-- a live task that does not run is ended; if it waits for a semaphore, it leaves that queue
abbrev pub ends_other : ℕ → ℕ → Call → State → Outcome
ends_other other t call s =
    let out_of_queues = on_memory (on_heap (dropped other)) s in
    let ended = on_schedule (task_removed other) out_of_queues in
    leaving_queue (awaited_by other s.memory.heap) other (done t call ended)

-- RemTask task: ends the caller, or another live task, which is ready or waits. What it owns is not freed (autodoc
-- exec.library/RemTask; the alert, and that a waiting task may be ended: project rule).
unfoldable pub does_rem_task : ℕ → Call → State → Outcome
does_rem_task t call s =
    let number = argument 0 call in
    if is_caller t number then done t call (on_schedule (leaves t) s)
    else unless (live_task_alert number s.scripts s.schedule) t call (ends_other (number - 1) t call) s

-- the number of a task, or 0 for none
abbrev pub number_or_none : Option ℕ → ℕ
number_or_none None = 0
number_or_none (Some t) = t + 1

-- the number of the live task of that name, or 0 if there is none; that of the caller if no name is given
abbrev pub found_number : ℕ → Option (List ℕ) → Schedule → ℕ
found_number t None s = t + 1
found_number t (Some name) s = number_or_none (found name s)

-- FindTask name: returns the number of the live task of that name, or 0 if there is none; for the argument 0 the
-- caller's number (autodoc exec.library/FindTask)
unfoldable pub does_find_task : ℕ → Call → State → Outcome
does_find_task t call s = answered t call (found_number t (name_argument 0 call) s.schedule) s

-- ---- the words of this group

-- a call of task t on tasks, by its word
abbrev pub does_tasks : TaskWord → ℕ → Call → State → Outcome
does_tasks word.SetTaskPri t call s = does_set_task_pri t call s
does_tasks word.AddTask t call s = does_add_task t call s
does_tasks word.RemTask t call s = does_rem_task t call s
does_tasks word.FindTask t call s = does_find_task t call s

-- the rules of this group, where all of them are to unfold
unfoldable pub task_rules : ⊤
unfolding does_add_task does_find_task does_rem_task does_set_task_pri
task_rules = tt
