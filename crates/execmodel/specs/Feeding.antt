-- Machines whose bodies grow while they run: a command is fed to a task at the end of its body, after it has begun.
-- What comes of it is what comes of the machine whose bodies are whole from the start.
use Rattle.std.specs.Prelude.{◌≡◌, ◌≢◌, ℕ, zero, suc, ◌+◌, ◌<◌, Bool, true, false, ◌||◌, if◌then◌else◌, nat_eq, List, [], ◌∷◌, ◌++◌, length, Option, None, Some}
use Rattle.script.specs.declared.event.Event.TheVariants.{Run}
use Rattle.script.specs.{declared.event.Event.Event, Commands.CommandData, File.MachineData, File.TaskData, Machines.IsMachine}
use Rattle.scheduler.specs.Joining.{joined_by}
use Rattle.softint.specs.declared.source.Source.{Source}
use Rattle.execmodel.specs.State.{Call, Program, Scripts, State, Outcome, quiet, andthen, program_of, on_scripts, new_program, booted}
use Rattle.execmodel.specs.{Pending.next_softint, Calls.next_call, Calls.call_of, Bodies.runs_body, Step.step, Step.steps, Step.tick, Step.request, Step.starts, Step.event, Step.run}

-- ---- a command is fed

-- a program with one more command at its end
abbrev pub longer : CommandData → Program → Program
longer command program = record program { code = program.code ++ command ∷ [] }

-- the item at a number of a list is changed, if there is one
unfoldable pub altered : {A : Type 0} → ℕ → (A → A) → List A → List A
altered n f [] = []
altered zero f (x ∷ xs) = f x ∷ xs
altered (suc n) f (x ∷ xs) = x ∷ altered n f xs

-- the body of task t has one more command at its end
unfoldable pub fed_to : ℕ → CommandData → Scripts → Scripts
fed_to t command scripts = record scripts { programs = altered t (longer command) scripts.programs }

-- a machine in which the body of task t has one more command at its end
abbrev pub fed : ℕ → CommandData → State → State
fed t command s = on_scripts (fed_to t command) s

-- an outcome in whose state the body of task t has one more command at its end
abbrev pub and_fed : ℕ → CommandData → Outcome → Outcome
and_fed t command o = record o { state = fed t command o.state }

-- ---- a task is added to the machine

-- a machine with one more task after the others, which was never added
abbrev pub with_new : TaskData → State → State
with_new task s = record s {
  schedule = joined_by task.pri task.name s.schedule;
  scripts = record s.scripts { programs = s.scripts.programs ++ new_program task ∷ [] };
  memory = record s.memory { tasks = suc s.memory.tasks };
}

-- an outcome in whose state there is one more task
abbrev pub and_new : TaskData → Outcome → Outcome
and_new task o = record o { state = with_new task o.state }

-- ---- the end of a body

-- a task, if it has no call to make
abbrev pub if_no_call : Option Call → ℕ → Option ℕ
if_no_call None t = Some t
if_no_call (Some call) t = None

-- the running task, if it has no call to make
abbrev pub without_call : Option ℕ → Scripts → Option ℕ
without_call None scripts = None
without_call (Some t) scripts = if_no_call (next_call t scripts) t

-- the same, if no software interrupt runs first
abbrev pub without_call_or_softint : Option ℕ → State → Option ℕ
without_call_or_softint None s = without_call s.schedule.running s.scripts
without_call_or_softint (Some i) s = None

-- The task that the next step finds at the end of its body: it runs, no software interrupt runs first, it waits in no
-- call, and none of its commands is left. That step ends it, unless its body goes on.
unfoldable pub at_end : State → Option ℕ
at_end s = if s.stopped then None else without_call_or_softint (next_softint s) s

-- ---- feeding and running commute

-- A step of a machine whose body of task t has one more command at its end is the step of the machine without it, with
-- that command at the end of the body that it leaves; unless that step finds task t at the end of its body.
abbrev pub StepsCommuteWithFeeding : Type 0
StepsCommuteWithFeeding =
    (t : ℕ) (command : CommandData) (s : State) → at_end s ≢ Some t → step (fed t command s) ≡ and_fed t command (step s)

-- the same of a tick, of a request and of the start, whatever the running task has left to do
pub record OthersCommuteWithFeeding : Type 0 where
  pub ticks : (t : ℕ) (command : CommandData) (s : State) → tick (fed t command s) ≡ and_fed t command (tick s)
  pub requests : (asks : Source) (t : ℕ) (command : CommandData) (s : State) → request asks (fed t command s) ≡ and_fed t command (request asks s)
  pub starts : (t : ℕ) (command : CommandData) (s : State) → starts (fed t command s) ≡ and_fed t command (starts s)

-- task t waits in no call, and the place of its next command is the end of its body
pub record IsAtItsEnd (t : ℕ) (scripts : Scripts) : Type 0 where
  pub among : t < length scripts.programs
  pub waits_not : (program_of scripts t).kept ≡ None
  pub place : (program_of scripts t).place ≡ length (program_of scripts t).code

-- The next call of a task at the end of its body is that of the command that it is fed.
abbrev pub AFedCommandIsNext : Type 0
AFedCommandIsNext =
    (t : ℕ) (command : CommandData) (s : State) → IsAtItsEnd t s.scripts
    → next_call t (fed t command s).scripts ≡ Some (call_of t ((program_of s.scripts t).place + 1) command s.scripts)

-- ---- servings in parts

-- The body of an interrupt runs in parts as the whole of them: the commands that are known, and then those that follow.
abbrev pub BodiesRunInParts : Type 0
BodiesRunInParts =
    (name : List ℕ) (some more : List CommandData) (s : State)
    → runs_body name (some ++ more) s ≡ andthen (runs_body name some) (runs_body name more) s

-- ---- a new task changes nothing

-- In each state that a run comes to, an event of a machine with one more task, which was never added, is the event of
-- the machine without it, and leaves that task as it is; unless an alert stops the machine in it.
abbrev pub EventsCommuteWithNewTasks : Type 0
EventsCommuteWithNewTasks =
    (machine : MachineData) (list : List Event) (e : Event) (task : TaskData) → IsMachine machine
    → (event e (run machine list).state).state.stopped ≡ false
    → event e (with_new task (run machine list).state) ≡ and_new task (event e (run machine list).state)

-- ---- whole runs

-- what is done with a machine whose bodies grow: an event comes; the body of a task gets one more command at its end;
-- or there is one more task, after the others, which was never added
pub data Input : Type 0 where
  Comes : (event : Event) → Input
  Feeds : (task : ℕ) (command : CommandData) → Input
  Adds : (task : TaskData) → Input

abbrev pub does_input : Input → State → Outcome
does_input (Comes e) s = event e s
does_input (Feeds t command) s = quiet (fed t command s)
does_input (Adds task) s = quiet (with_new task s)

-- one input after another
unfoldable pub inputs : List Input → State → Outcome
inputs [] s = quiet s
inputs (one ∷ rest) s = andthen (does_input one) (inputs rest) s

-- a task of a file whose body has one more command at its end
abbrev pub fed_task : CommandData → TaskData → TaskData
fed_task command task = record task { code = task.code ++ command ∷ [] }

-- a machine file with all commands that are fed, and all tasks that are added
abbrev pub whole : List Input → MachineData → MachineData
whole [] machine = machine
whole (Comes e ∷ rest) machine = whole rest machine
whole (Feeds t command ∷ rest) machine = whole rest (record machine { tasks = altered t (fed_task command) machine.tasks })
whole (Adds task ∷ rest) machine = whole rest (record machine { tasks = machine.tasks ++ task ∷ [] })

-- the events that come
abbrev pub events_among : List Input → List Event
events_among [] = []
events_among (Comes e ∷ rest) = e ∷ events_among rest
events_among (_ ∷ rest) = events_among rest

-- task t is fed a command
abbrev pub is_fed : ℕ → List Input → Bool
is_fed t [] = false
is_fed t (Feeds other command ∷ rest) = nat_eq other t || is_fed t rest
is_fed t (_ ∷ rest) = is_fed t rest

-- no step of an event finds task t at the end of its body
abbrev pub StaysWithin : ℕ → Event → State → Type 0
StaysWithin t (Run n) s = (k : ℕ) → k < n → at_end (steps k s).state ≢ Some t
StaysWithin t _ s = Unit {0}

-- Inputs come in time: no step finds a task at the end of its body that is fed later; and what is added is a task that
-- does not start with the machine, as long as no alert has stopped that.
abbrev pub ComeInTime : List Input → State → Type 0
ComeInTime [] s = Unit {0}
ComeInTime (Comes e ∷ rest) s = ((t : ℕ) → is_fed t rest ≡ true → StaysWithin t e s) × ComeInTime rest (event e s).state
ComeInTime (Feeds t command ∷ rest) s = ComeInTime rest (fed t command s)
ComeInTime (Adds task ∷ rest) s = (s.stopped ≡ false) × (task.start ≡ false) × ComeInTime rest (with_new task s)

-- A machine whose inputs come in time runs as the one whose bodies are whole, and whose tasks are all there, from the
-- start, over the events that come.
abbrev pub FedMachinesRunAsWhole : Type 0
FedMachinesRunAsWhole =
    (machine : MachineData) (list : List Input) → IsMachine machine → ComeInTime list (starts (booted machine)).state
    → andthen starts (inputs list) (booted machine) ≡ run (whole list machine) (events_among list)
