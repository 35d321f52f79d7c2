-- What the program comes to over two texts: its status, and what it writes.
use Rattle.std.specs.Prelude.{◌≡◌, ℕ, List, Result, Ok, Err}
use Rattle.script.specs.{File.MachineData, declared.event.Event.Event}
use Rattle.taskscript.specs.{declared.fault.FileFault.FileFault, declared.fault.EventFault.EventFault}
use Rattle.execsim.specs.{declared.simulation.End.End, declared.simulation.SimFault.SimFault}
use Rattle.execrun.specs.{Ending.code_of, Ending.ending_after, Ending.status_of, Fault.fault_of, Fault.line_of, declared.ending.Ending.Ending}
use Rattle.runs.specs.Runs.{IsRun, IsFault}

-- the answer of a run, with what is written of it: the trace, or the line of its fault
abbrev pub IsWritten : Result MachineData FileFault → Result (List Event) EventFault → List ℕ → Result End SimFault → Type 0
IsWritten file script written (Ok how) = IsRun file script written how
IsWritten file script written (Err why) = IsFault file script why × (written ≡ line_of (fault_of why))

abbrev pub ending_of : Result End SimFault → Ending
ending_of (Ok how) = ending_after (Ok how)
ending_of (Err why) = ending_after (Err (fault_of why))

-- the texts have an answer of which exactly this is written, and which ends the program with this status
pub record IsOutcome (file : Result MachineData FileFault) (script : Result (List Event) EventFault) (status : ℕ) (written : List ℕ) : Type 0 where
  pub answer : Result End SimFault
  pub writes : IsWritten file script written answer
  pub ends : status ≡ code_of (status_of (ending_of answer))
