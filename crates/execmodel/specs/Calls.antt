-- Calls: the values of their arguments, and how they end. A call that waits is kept with its values, so that a variable
-- that changes meanwhile is not read again; no other call is kept.
use Rattle.std.specs.Prelude.{ℕ, ◌+◌, true, List, Option, None, Some, map, slice_get, slice_index_or, slice_set}
use Rattle.exectrace.specs.Trace.{Argument, Value, Quoted, Done, Answers, Waits}
use Rattle.exectrace.specs.Trace as trace
use Rattle.script.specs.Alerts.{alert_text}
use Rattle.script.specs.declared.variable.Variable.TheVariants.{Private, Shared}
use Rattle.script.specs.{declared.variable.Variable.Variable, Commands.ArgumentData, Commands.number, Commands.variable, Commands.quoted, Commands.place, Commands.CommandData, Words.word_text}
use Rattle.scheduler.specs.Schedule.{task_name}
use Rattle.execmodel.specs.State.{Call, Scripts, State, Outcome, quiet, prints_line, program_of, with_program, on_scripts}
use Rattle.script.specs.declared.alert.Alert.{Alert}

-- ---- variables

-- what a variable holds for task t
abbrev pub content : ℕ → Scripts → Variable → ℕ
content t scripts (Private k) = slice_index_or (program_of scripts t).variables k 0
content t scripts (Shared k) = slice_index_or scripts.shared k 0

-- a value is stored in a variable, for task t; nothing changes if no variable is given
abbrev pub stored : ℕ → Option Variable → ℕ → Scripts → Scripts
stored t None value scripts = scripts
stored t (Some (Private k)) value scripts =
    with_program t (record (program_of scripts t) { variables = slice_set (program_of scripts t).variables k value }) scripts
stored t (Some (Shared k)) value scripts = record scripts { shared = slice_set scripts.shared k value }

-- ---- arguments

-- the value of an argument for task t; a place in the code is its number
abbrev pub evaluated : ℕ → Scripts → ArgumentData → Argument
evaluated t scripts (number n) = Value n
evaluated t scripts (variable v) = Value (content t scripts v)
evaluated t scripts (quoted name) = Quoted name
evaluated t scripts (place k) = Value k

-- the call of a command for task t, with the values of its arguments, and with the place of the command after it
unfoldable pub call_of : ℕ → ℕ → CommandData → Scripts → Call
call_of t next command scripts = record {
  word = command.word;
  target = command.target;
  arguments = map (evaluated t scripts) command.arguments;
  next = next;
  awaited = 0;
}

-- the call of the next command of task t, if there is one
abbrev pub call_at : ℕ → Option CommandData → Scripts → Option Call
call_at t None scripts = None
call_at t (Some command) scripts = Some (call_of t ((program_of scripts t).place + 1) command scripts)

-- the call that task t waits in, if there is one, which it tries again; else the call of its next command
abbrev pub call_after : ℕ → Option Call → Scripts → Option Call
call_after t (Some kept) scripts = Some kept
call_after t None scripts = call_at t (slice_get (program_of scripts t).code (program_of scripts t).place) scripts

-- The call that task t tries next: the one that it waits in, or else that of its next command. There is none if its
-- commands are used up.
unfoldable pub next_call : ℕ → Scripts → Option Call
next_call t scripts = call_after t (program_of scripts t).kept scripts

-- an argument as a number: 0 for a name, and if there is no argument
abbrev pub argument_number : Option Argument → ℕ
argument_number None = 0
argument_number (Some (Value n)) = n
argument_number (Some (Quoted name)) = 0

-- argument k of a call as a number, counted from 0
abbrev pub argument : ℕ → Call → ℕ
argument k call = argument_number (slice_get call.arguments k)

-- the name that an argument is, if it is one
abbrev pub name_in : Option Argument → Option (List ℕ)
name_in None = None
name_in (Some (Value n)) = None
name_in (Some (Quoted name)) = Some name

-- argument k of a call as a name, counted from 0, if it is one
abbrev pub name_argument : ℕ → Call → Option (List ℕ)
name_argument k call = name_in (slice_get call.arguments k)

-- ---- how a call ends

-- task t goes on with the command at that place, and waits in no call
abbrev pub goes_on : ℕ → ℕ → Scripts → Scripts
goes_on t next scripts = with_program t (record (program_of scripts t) { place = next; kept = None }) scripts

-- task t keeps this call, to try it again
abbrev pub keeps : ℕ → Call → Scripts → Scripts
keeps t call scripts = with_program t (record (program_of scripts t) { kept = Some call }) scripts

-- the line of a call of task t
abbrev pub line_of_call : ℕ → Call → trace.CallEnd → State → trace.TraceLine
line_of_call t call outcome s = trace.Call (task_name s.schedule t) (word_text call.word) call.arguments outcome

-- a call of task t is done, and returns nothing: its line is printed, and the task goes on with its next command
unfoldable pub done : ℕ → Call → State → Outcome
done t call s = prints_line (line_of_call t call Done s) (on_scripts (goes_on t call.next) s)

-- a call of task t is done, and returns a value: its line is printed, the value is stored in its target, if it has one,
-- and the task goes on with its next command
unfoldable pub answered : ℕ → Call → ℕ → State → Outcome
answered t call value s =
    prints_line (line_of_call t call (Answers value) s) (on_scripts (λ scripts. goes_on t call.next (stored t call.target value scripts)) s)

-- a call of task t waits: its line is printed, and it is kept, to be tried again
unfoldable pub waiting : ℕ → Call → State → Outcome
waiting t call s = prints_line (line_of_call t call Waits s) (on_scripts (keeps t call) s)

-- a word that is not a call of Exec is done, for task t: the value is stored in its target, if it has one, and no line
-- is printed
unfoldable pub silent : ℕ → Call → ℕ → State → Outcome
silent t call value s = quiet (on_scripts (λ scripts. goes_on t call.next (stored t call.target value scripts)) s)

-- A call of task t is refused by an alert: its line is printed, and the machine stops for good. Nothing else changes
-- (project rule).
unfoldable pub alerted : Alert → ℕ → Call → State → Outcome
alerted code t call s = prints_line (trace.Alert (alert_text code) (task_name s.schedule t) (word_text call.word)) (record s { stopped = true })

-- ---- who makes a call

-- who makes a call: a task, by its number, or the body of a server or of a software interrupt, by its name
pub data Caller : Type 0 where
  ByTask : (task : ℕ) → Caller
  ByBody : (name : List ℕ) → Caller

-- a value is stored in a shared variable; nothing changes for a task's own variable, as a body has none, or if no
-- variable is given
abbrev pub stored_shared : Option Variable → ℕ → Scripts → Scripts
stored_shared None value scripts = scripts
stored_shared (Some (Private k)) value scripts = scripts
stored_shared (Some (Shared k)) value scripts = record scripts { shared = slice_set scripts.shared k value }

-- a call that returns nothing is done, for either caller; its line has the name of the task or the body
abbrev pub done_by : Caller → Call → State → Outcome
done_by (ByTask t) call s = done t call s
done_by (ByBody name) call s = prints_line (trace.Call name (word_text call.word) call.arguments Done) s

-- a call that returns a value is done, for either caller; a body stores the value in a shared variable
abbrev pub answered_by : Caller → Call → ℕ → State → Outcome
answered_by (ByTask t) call value s = answered t call value s
answered_by (ByBody name) call value s =
    prints_line (trace.Call name (word_text call.word) call.arguments (Answers value)) (on_scripts (stored_shared call.target value) s)

-- a word that is not a call of Exec is done, for either caller: the value is stored in its target, if it has one, and
-- no line is printed
abbrev pub silent_by : Caller → Call → ℕ → State → Outcome
silent_by (ByTask t) call value s = silent t call value s
silent_by (ByBody name) call value s = quiet (on_scripts (stored_shared call.target value) s)

-- a call is refused by an alert, for either caller, and the machine stops for good
abbrev pub alerted_by : Alert → Caller → Call → State → Outcome
alerted_by code (ByTask t) call s = alerted code t call s
alerted_by code (ByBody name) call s = prints_line (trace.Alert (alert_text code) name (word_text call.word)) (record s { stopped = true })

-- the value of an argument in a body; a place in the code is its number, and a task's own variable, which no body has,
-- is 0
abbrev pub evaluated_in_body : Scripts → ArgumentData → Argument
evaluated_in_body scripts (number n) = Value n
evaluated_in_body scripts (variable (Private k)) = Value 0
evaluated_in_body scripts (variable (Shared k)) = Value (slice_index_or scripts.shared k 0)
evaluated_in_body scripts (quoted name) = Quoted name
evaluated_in_body scripts (place k) = Value k

-- the call of a command of a body
abbrev pub call_in_body : CommandData → Scripts → Call
call_in_body command scripts = record {
  word = command.word;
  target = command.target;
  arguments = map (evaluated_in_body scripts) command.arguments;
  next = 0;
  awaited = 0;
}

-- ---- refusing

-- a call that an alert may refuse: it is refused, if an alert is given, and else has its effect
abbrev pub unless_by : Option Alert → Caller → Call → (State → Outcome) → State → Outcome
unless_by None c call effect s = effect s
unless_by (Some code) c call effect s = alerted_by code c call s

-- a call of task t that an alert may refuse: it is refused, if an alert is given, and else has its effect
abbrev pub unless : Option Alert → ℕ → Call → (State → Outcome) → State → Outcome
unless alert t call effect s = unless_by alert (ByTask t) call effect s
