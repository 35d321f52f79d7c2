-- What the body of a software interrupt or of a server does (RKM Libraries, Exec Interrupts). A body runs to its end at
-- once, or to an alert. It has only the shared variables, prints under its own name, and its calls are made by no task.
use Rattle.std.specs.Prelude.{ℕ, List, [], ◌∷◌}
use Rattle.script.specs.declared.word.Word.TheVariants.{Plain, Signals, Ports, Interrupts}
use Rattle.script.specs.{declared.word.Word.Word, declared.word.plain.PlainWord.PlainWord, declared.word.task_signals.SignalWord.SignalWord, declared.word.ports.PortWord.PortWord, declared.word.interrupts.InterruptWord.InterruptWord, Commands.CommandData}
use Rattle.script.specs.declared.word.plain.PlainWord.TheVariants as plain
use Rattle.script.specs.declared.word.task_signals.SignalWord.TheVariants as signals
use Rattle.script.specs.declared.word.ports.PortWord.TheVariants as ports
use Rattle.script.specs.declared.word.interrupts.InterruptWord.TheVariants as interrupts
use Rattle.execmodel.specs.{State.Call, State.State, State.Outcome, State.quiet, State.andthen, State.unless_stopped, Calls.Caller, Calls.ByBody, Calls.call_in_body, Calls.done_by, Plain.does_set_by, Plain.does_add_by, Plain.does_sub_by, Plain.does_and_by, Plain.does_or_by, Signals.does_signal_by, Ports.does_put_msg_by, Ports.does_get_msg_by, Ports.does_reply_msg_by, Causing.does_cause_by}

-- ---- the words of a body; no body of a file has another one

-- a plain word in a body; Jump, JumpZ and JumpNZ, which no body may have, do nothing
abbrev pub does_plain_by : PlainWord → Caller → Call → State → Outcome
does_plain_by plain.Set c call s = does_set_by c call s
does_plain_by plain.Add c call s = does_add_by c call s
does_plain_by plain.Sub c call s = does_sub_by c call s
does_plain_by plain.And c call s = does_and_by c call s
does_plain_by plain.Or c call s = does_or_by c call s
does_plain_by plain.Print c call s = done_by c call s
does_plain_by _ c call s = quiet s

-- a word on signals in a body: Signal is the only one; any other word does nothing
abbrev pub does_signals_by : SignalWord → Caller → Call → State → Outcome
does_signals_by signals.Signal c call s = does_signal_by c call s
does_signals_by _ c call s = quiet s

-- a word on ports in a body: PutMsg, GetMsg or ReplyMsg; any other word does nothing
abbrev pub does_ports_by : PortWord → Caller → Call → State → Outcome
does_ports_by ports.PutMsg c call s = does_put_msg_by c call s
does_ports_by ports.GetMsg c call s = does_get_msg_by c call s
does_ports_by ports.ReplyMsg c call s = does_reply_msg_by c call s
does_ports_by _ c call s = quiet s

-- a word on interrupts in a body: Cause is the only one
abbrev pub does_interrupts_by : InterruptWord → Caller → Call → State → Outcome
does_interrupts_by interrupts.Cause c call s = does_cause_by c call s

-- a call of a body, by the group of its word; a word that no body may have does nothing
abbrev pub does_word_by : Word → Caller → Call → State → Outcome
does_word_by (Plain word) c call s = does_plain_by word c call s
does_word_by (Signals word) c call s = does_signals_by word c call s
does_word_by (Ports word) c call s = does_ports_by word c call s
does_word_by (Interrupts word) c call s = does_interrupts_by word c call s
does_word_by _ c call s = quiet s

-- ---- a body

-- the body of that name makes a call
unfoldable pub does_in_body : List ℕ → Call → State → Outcome
does_in_body name call s = does_word_by call.word (ByBody name) call s

-- the body of that name does one command
unfoldable pub body_step : List ℕ → CommandData → State → Outcome
body_step name command s = does_in_body name (call_in_body command s.scripts) s

-- the body of that name does these commands, one after another; after an alert it does no more
unfoldable pub runs_body : List ℕ → List CommandData → State → Outcome
runs_body name [] s = quiet s
runs_body name (command ∷ others) s = andthen (unless_stopped (body_step name command)) (runs_body name others) s
