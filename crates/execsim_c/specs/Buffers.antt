-- What a caller finds in its buffer after a run.
use Rattle.std.specs.Prelude.{◌≡◌, ℕ, ◌<◌, ◌≤◌, List, length, take, Result, Ok, Err}
use Rattle.exectrace.specs.Trace.{printed}
use Rattle.script.specs.{File.MachineData, declared.event.Event.Event}
use Rattle.taskscript.specs.{declared.fault.FileFault.FileFault, declared.fault.EventFault.EventFault}
use Rattle.taskscript.specs.declared.fault.FileFault.TheVariants as file_fault
use Rattle.taskscript.specs.declared.fault.EventFault.TheVariants as event_fault
use Rattle.execmodel.specs.Step.{run}
use Rattle.execsim.specs.{Headline.end_of, declared.simulation.End.End, declared.simulation.SimFault.SimFault}
use Rattle.execsim.specs.declared.simulation.SimFault.TheVariants as fault

-- both texts are read, and their run prints these bytes and ends so
pub record IsRun (file : Result MachineData FileFault) (script : Result (List Event) EventFault) (trace : List ℕ) (how : End) : Type 0 where
  pub machine : MachineData
  pub events : List Event
  pub reads_file : file ≡ Ok machine
  pub reads_events : script ≡ Ok events
  pub prints : trace ≡ printed (run machine events).lines
  pub ends : how ≡ end_of (run machine events).state.stopped

-- the machine file is refused by its fault
pub record RefusesFile (file : Result MachineData FileFault) : Type 0 where
  pub why : FileFault
  pub is_refused : file ≡ Err why

-- the event text is refused by its fault
pub record RefusesEvents (script : Result (List Event) EventFault) : Type 0 where
  pub why : EventFault
  pub is_refused : script ≡ Err why

-- it is the fault of a machine file, and not that memory was refused
pub record IsMachineFault (it : SimFault) : Type 0 where
  pub why : FileFault
  pub is : it ≡ fault.File why
  pub defined : ¬ (why ≡ file_fault.OutOfMemory)

-- it is the fault of an event text, and not that memory was refused
pub record IsEventsFault (it : SimFault) : Type 0 where
  pub why : EventFault
  pub is : it ≡ fault.Events why
  pub defined : ¬ (why ≡ event_fault.OutOfMemory)

-- a text is refused by this fault, unless memory was
abbrev pub IsFault : Result MachineData FileFault → Result (List Event) EventFault → SimFault → Type 0
IsFault file script (fault.File why) = ¬ (why ≡ file_fault.OutOfMemory) → file ≡ Err why
IsFault file script (fault.Events why) = ¬ (why ≡ event_fault.OutOfMemory) → script ≡ Err why
IsFault file script fault.Memory = Unit {0}
IsFault file script fault.Write = Unit {0}

-- the buffer begins with the whole trace of the run of both texts, which is this long, and the run ended so
pub record Holds (file : Result MachineData FileFault) (script : Result (List Event) EventFault) (out : List ℕ) (len : ℕ) (how : End) : Type 0 where
  pub within : len ≤ length out
  pub run : IsRun file script (take len out) how

-- the whole trace is longer than the buffer: it has this many bytes
pub record Exceeds (file : Result MachineData FileFault) (script : Result (List Event) EventFault) (out : List ℕ) (len : ℕ) : Type 0 where
  pub trace : List ℕ
  pub how : End
  pub beyond : length out < len
  pub long : len ≡ length trace
  pub run : IsRun file script trace how
