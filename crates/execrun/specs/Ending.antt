-- The ends of the program: the status that represents each, and which of them go without a word on standard error.
use Rattle.std.specs.Prelude.{⊤, ℕ, List, Option, Result, Ok, Err}
use Rattle.std.specs.Io.KnownBytes.{Appends, Keeps}
use Rattle.execsim.specs.declared.simulation.End.TheVariants.{Ran, Alerted}
use Rattle.execsim.specs.declared.simulation.End.{End}
use Rattle.execrun.specs.declared.fault.Fault.TheVariants.{Machine, Events}
use Rattle.execrun.specs.{Fault.line_of, declared.fault.Fault.Fault, declared.ending.Ending.Ending, declared.ending.Status.Status}
use Rattle.execrun.specs.declared.ending.Ending.TheVariants as ending
use Rattle.execrun.specs.declared.ending.Status.TheVariants as status

-- the end of the program after a simulation
abbrev pub ending_after : Result End Fault → Ending
ending_after (Ok Ran) = ending.Done
ending_after (Ok Alerted) = ending.Alerted
ending_after (Err fault) = ending.Failed fault

abbrev pub status_of : Ending → Status
status_of ending.Done = status.Done
status_of ending.Alerted = status.Alerted
status_of (ending.Refused error) = status.CommandLineRefused
status_of (ending.Failed (Machine fault)) = status.TextRefused
status_of (ending.Failed (Events fault)) = status.TextRefused
status_of (ending.Failed fault) = status.Failed

-- the number of each status, which the process ends with
abbrev pub code_of : Status → ℕ
code_of status.Done = 0
code_of status.TextRefused = 1
code_of status.CommandLineRefused = 2
code_of status.Alerted = 3
code_of status.Failed = 4

abbrev pub IsSilent : Ending → Type 0
IsSilent ending.Done = ⊤
IsSilent ending.Alerted = ⊤
IsSilent ending = ⊥

-- What a writer has after all that there is to say of an end was written to it: the line of a fault, and else nothing.
-- Which text says why a command line is refused, `clap` alone says.
abbrev pub Says : Option (List ℕ) → Option (List ℕ) → Ending → Type 0
Says before after ending.Done = Keeps before after
Says before after ending.Alerted = Keeps before after
Says before after (ending.Refused error) = ⊤
Says before after (ending.Failed fault) = Appends before after (line_of fault)
