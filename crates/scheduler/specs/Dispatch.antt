-- How tasks come to run (RKM Libraries, Exec Tasks: task scheduling), for any discipline of the ready sequence. The
-- discipline says where an arriving task is put, and which ready task is chosen. The scheduler of the program keeps the
-- sequence by priority, the abstract machine in order of arrival.
use Rattle.std.specs.Prelude.{ℕ, ℤ, true, not, if◌then◌else◌, Option, None, Some}
use Rattle.execlist.specs.Disciplines.{Discipline, pri_at}
use Rattle.taskq.specs.{Tasks.is_ready, Tasks.is_live, declared.TaskState.TheVariants.Ready}
use Rattle.signals.specs.Signals.{after_post}
use Rattle.scheduler.specs.Schedule.{Schedule, status_of, signals_of, with_status, with_priority, with_signals, switch_for, renewed, begins, departs, is_absent, awaits}
use Rattle.scheduler.specs.{declared.Switch.Switch, declared.Switch.TheVariants.To, declared.Switch.TheVariants.Idle}

-- ---- moving between states

-- task t is put into the ready sequence, where the discipline puts a task that arrives
abbrev pub joins_ready : Discipline → ℕ → Schedule → Schedule
joins_ready d t s = record s { queue = record s.queue { ready = d.arrival (pri_at s.queue.pris) s.queue.ready t } }

-- task t becomes ready (RKM Libraries, Exec Tasks: scheduling)
unfoldable pub arrives : Discipline → ℕ → Schedule → Schedule
arrives d t s = joins_ready d t (with_status t Ready s)

-- ---- the switch of a settle

-- the switch that a settle makes, if any: to another task, or to being idle (RKM Libraries, Exec Tasks: scheduling)
unfoldable pub switch_of : Discipline → Schedule → Option Switch
switch_of d s = switch_for s.running (d.choice (pri_at s.queue.pris) s.queue.ready) s

-- the task that ran before a switch, if any, arrives anew: it was pre-empted, or its quantum was over
abbrev pub displaced : Discipline → Option ℕ → Schedule → Schedule
displaced d None s = s
displaced d (Some r) s = arrives d r s

-- the schedule after a switch: the chosen task begins, and the one that ran arrives anew; or the machine is idle;
-- without a switch a quantum that has ended may begin anew
abbrev pub after_switch : Discipline → Option Switch → Schedule → Schedule
after_switch d None s = renewed s.running s
after_switch d (Some Idle) s = record s { idle = true }
after_switch d (Some (To t)) s = begins t (displaced d s.running s)

-- the switch that is due is made (RKM Libraries, Exec Tasks: scheduling; arriving anew: project rule)
unfoldable pub rescheduled : Discipline → Schedule → Schedule
rescheduled d s = after_switch d (switch_of d s) s

-- ---- beginning, and another priority

-- a task that was never added becomes ready; any other stays as it is (autodoc exec.library/AddTask)
unfoldable pub added : Discipline → ℕ → Schedule → Schedule
added d t s = if is_absent (status_of s t) then arrives d t s else s

-- task t gets another priority (autodoc exec.library/SetTaskPri); a ready one arrives anew (project rule)
unfoldable pub reprioritized : Discipline → ℕ → ℤ → Schedule → Schedule
reprioritized d t pri s =
    if is_ready (status_of s t) then arrives d t (departs t (with_priority t pri s)) else with_priority t pri s

-- ---- signals

-- Signals join what a live task has received; a task that waits for any of them becomes ready
-- (RKM Libraries, Exec Signals; autodoc exec.library/Signal). A task that is not live takes none (project rule).
unfoldable pub signalled : Discipline → ℕ → ℕ → Schedule → Schedule
signalled d t mask s =
    if not (is_live (status_of s t)) then s
    else (let got = with_signals t (after_post mask (signals_of s t)) s in
    if awaits (status_of s t) (signals_of got t).received then arrives d t got else got)
