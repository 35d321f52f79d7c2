-- Steps, settling and whole runs: all interleaving comes from the list of events.
use Rattle.std.specs.Prelude.{ℕ, zero, suc, true, if◌then◌else◌, List, [], ◌∷◌, Option, None, Some, codes, length}
use Rattle.execlist.specs.Disciplines.{by_arrival}
use Rattle.exectrace.specs.Trace.{Value, Done, Switch, Idle}
use Rattle.exectrace.specs.Trace as trace
use Rattle.script.specs.declared.word.Word.TheVariants.{Plain, Signals, Nesting, Tasks, Lists, Memory, Ports, Semaphores, Interrupts, Libraries, Requests}
use Rattle.script.specs.declared.event.Event.TheVariants.{Run, Tick, Irq}
use Rattle.script.specs.{declared.word.Word.Word, declared.event.Event.Event, File.MachineData}
use Rattle.scheduler.specs.{Schedule.Schedule, Schedule.task_name, Schedule.leaves, declared.Switch.Switch as Choice, Dispatch.switch_of, Dispatch.rescheduled, Dispatch.added}
use Rattle.scheduler.specs.declared.Switch.TheVariants as switch
use Rattle.execmodel.specs.State.{Call, Scripts, State, Outcome, quiet, prints_line, andthen, unless_stopped, program_of, on_schedule, on_memory, on_pending, on_timer, booted}
use Rattle.execmodel.specs.{Pending.with_latch_of, Pending.next_softint, Interrupts.interrupts, Interrupts.runs_softint, Calls.next_call, Plain.does_plain, Signals.does_signals, Nesting.does_nesting, Tasks.does_tasks, Lists.does_lists, Memory.does_memory, Ports.does_ports, Semaphores.does_semaphores, Causing.does_interrupts, Libraries.does_libraries, Requests.does_requests, Requests.finishes_set}
use Rattle.timerdev.specs.Timing.{clock_ticked}
use Rattle.softint.specs.{declared.source.Source.Source, declared.source.Source.TheVariants.Vertb}

-- ---- settle

-- the line of a switch is printed, if one is made
abbrev pub announced : Option Choice → State → Outcome
announced None s = quiet s
announced (Some (switch.To t)) s = prints_line (Switch (task_name s.schedule t)) s
announced (Some switch.Idle) s = prints_line Idle s

-- the switch that is due, if any: to another task, or to being idle (RKM Libraries, Exec Tasks)
unfoldable pub switches : State → Outcome
switches s = announced (switch_of by_arrival s.schedule) (on_schedule (rescheduled by_arrival) s)

-- what follows each action: the sources that ask are served, and then there is at most one switch; a stopped machine
-- stays as it is
unfoldable pub settle : State → Outcome
settle s = unless_stopped (andthen interrupts (unless_stopped switches)) s

-- ---- step

-- A call of task t, by the group of its word. After a call on requests that has set system time, and after its line,
-- each request finishes that waits for a system time that has come.
abbrev pub does_word : Word → ℕ → Call → State → Outcome
does_word (Plain word) t call s = does_plain word t call s
does_word (Signals word) t call s = does_signals word t call s
does_word (Nesting word) t call s = does_nesting word t call s
does_word (Tasks word) t call s = does_tasks word t call s
does_word (Lists word) t call s = does_lists word t call s
does_word (Memory word) t call s = does_memory word t call s
does_word (Ports word) t call s = does_ports word t call s
does_word (Semaphores word) t call s = does_semaphores word t call s
does_word (Interrupts word) t call s = does_interrupts word t call s
does_word (Libraries word) t call s = does_libraries word t call s
does_word (Requests word) t call s = andthen (does_requests word t call) finishes_set s

-- a call of a task, by its word
unfoldable pub does : ℕ → Call → State → Outcome
does t call s = does_word call.word t call s

-- a task whose commands are used up ends, as by RemTask 0 (RKM Libraries, Exec Tasks: task termination)
unfoldable pub ends : ℕ → State → Outcome
ends t s = prints_line (trace.Call (task_name s.schedule t) (codes "RemTask") (Value 0 ∷ []) Done) (on_schedule (leaves t) s)

-- task t makes its next call, or ends if its commands are used up
abbrev pub call_step : ℕ → Option Call → State → Outcome
call_step t None s = ends t s
call_step t (Some call) s = does t call s

-- the step of the running task; if no task runs, the step is used up and nothing happens
abbrev pub task_step : Option ℕ → State → Outcome
task_step None s = quiet s
task_step (Some t) s = call_step t (next_call t s.scripts) s

-- the software interrupt that is next runs; only if there is none, the running task does its step
abbrev pub softint_or_task_step : Option ℕ → State → Outcome
softint_or_task_step None s = task_step s.schedule.running s
softint_or_task_step (Some i) s = runs_softint i s

-- what a step does: the next software interrupt runs, or else the running task does one command (RKM Libraries, Exec
-- Interrupts: software interrupts; one a step: project rule)
unfoldable pub step_action : State → Outcome
step_action s = softint_or_task_step (next_softint s) s

-- what a step does, before the machine settles; a stopped machine does nothing
unfoldable pub acts : State → Outcome
acts s = unless_stopped step_action s

-- one step: a software interrupt runs, or else the running task does one command; then the machine settles
unfoldable pub step : State → Outcome
step s = andthen acts settle s

-- that many steps
unfoldable pub steps : ℕ → State → Outcome
steps zero s = quiet s
steps (suc n) s = andthen (steps n) step s

-- ---- run

-- an interrupt is requested: its source asks to be served, and the machine settles; a stopped machine does nothing (RKM
-- Libraries, Exec Interrupts)
unfoldable pub request : Source → State → Outcome
request asks s = unless_stopped (λ s. settle (on_pending (with_latch_of asks true) s)) s

-- one tick: the clock and system time advance by it, even if interrupts are disabled, and VERTB is requested; a stopped
-- machine does nothing
unfoldable pub tick : State → Outcome
tick s = unless_stopped (λ s. request Vertb (on_memory (on_timer clock_ticked) s)) s

-- that many ticks
unfoldable pub ticks : ℕ → State → Outcome
ticks zero s = quiet s
ticks (suc n) s = andthen (ticks n) tick s

-- task t is added, if it is to start with the machine
abbrev pub started : Scripts → ℕ → Schedule → Schedule
started scripts t s = if (program_of scripts t).starts then added by_arrival t s else s

-- the first tasks of the file, that many, in order: each is added that is to start with the machine
unfoldable pub all_added : Scripts → ℕ → Schedule → Schedule
all_added scripts zero s = s
all_added scripts (suc n) s = started scripts n (all_added scripts n s)

-- the start: the tasks are added in the order of the file, and then the machine settles once
unfoldable pub starts : State → Outcome
starts s = settle (on_schedule (all_added s.scripts (length s.scripts.programs)) s)

-- an event: that many steps, that many ticks, or one request of an interrupt source
unfoldable pub event : Event → State → Outcome
event (Run n) s = steps n s
event (Tick n) s = ticks n s
event (Irq asks) s = request asks s

-- the events, one after another
unfoldable pub events : List Event → State → Outcome
events [] s = quiet s
events (e ∷ rest) s = andthen (event e) (events rest) s

-- the whole run of a machine: its start, and then each event in order
unfoldable pub run : MachineData → List Event → Outcome
run machine list = andthen starts (events list) (booted machine)
