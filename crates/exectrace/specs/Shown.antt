-- The line of the definitions that a `Line` represents.
use Rattle.std.specs.Prelude.{map}
use Rattle.exectrace.specs.Trace.{Argument, Value, Quoted, CallEnd, Done, Answers, Waits, TraceLine, Switch, Idle, Call, Serve, Timer, Server, Softint, Alert}
use Rattle.exectrace.specs.{declared.lines.Line.Line, declared.lines.Arg.Arg, declared.lines.CallLine.CallLine, declared.lines.CallOutcome.CallOutcome}
use Rattle.exectrace.specs.declared.lines.Line.TheVariants as line
use Rattle.exectrace.specs.declared.lines.Arg.TheVariants as arg
use Rattle.exectrace.specs.declared.lines.CallOutcome.TheVariants as outcome

abbrev pub shown_argument : Arg → Argument
shown_argument (arg.Value n) = Value n
shown_argument (arg.Quoted name) = Quoted name.bytes

abbrev pub shown_outcome : CallOutcome → CallEnd
shown_outcome outcome.Done = Done
shown_outcome (outcome.Answers n) = Answers n
shown_outcome outcome.Waits = Waits

-- a call of this outcome
abbrev pub shown_call : CallLine → CallEnd → TraceLine
shown_call call outcome = Call call.name.bytes call.word.bytes (map shown_argument call.arguments.items) outcome

abbrev pub shown : Line → TraceLine
shown (line.Switch name) = Switch name.bytes
shown line.Idle = Idle
shown (line.Call call) = shown_call call Done
shown (line.Answer call value) = shown_call call (Answers value)
shown (line.Wait call) = shown_call call Waits
shown (line.Serve source) = Serve source.bytes
shown (line.Timer value) = Timer value
shown (line.Server name) = Server name.bytes
shown (line.Softint name) = Softint name.bytes
shown (line.Alert code name word) = Alert code.bytes name.bytes word.bytes
