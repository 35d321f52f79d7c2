-- What a machine does that is kept between calls.
use Rattle.std.specs.Prelude.{◌≡◌, ℕ, List, Option, Result, Ok}
use Rattle.std.specs.Io.KnownBytes.{Appends}
use Rattle.exectrace.specs.Trace.{printed}
use Rattle.script.specs.File.{MachineData}
use Rattle.taskscript.specs.declared.fault.FileFault.{FileFault}
use Rattle.execmodel.specs.{State.State, State.Outcome, State.booted, Step.starts}
use Rattle.execsim.specs.Agreement.{Seen, Agrees}

-- the machine of a file has started, and these are its lines
pub record Starts (file : MachineData) (seen : Seen) (lines : List ℕ) : Type 0 where
  pub agrees : Agrees seen (starts (booted file)).state
  pub prints : lines ≡ printed (starts (booted file)).lines

-- the machine goes on as the action says, from any state that it agrees with, and its lines are added
pub record Does (next : State → Outcome) (old new : Seen) (before after : Option (List ℕ)) : Type 0 where
  pub agrees : (s : State) → Agrees old s → Agrees new (next s).state
  pub prints : (s : State) → Agrees old s → Appends before after (printed (next s).lines)

-- the file is read, and its machine has started
pub record IsStarted (file : Result MachineData FileFault) (seen : Seen) (lines : List ℕ) : Type 0 where
  pub machine : MachineData
  pub reads : file ≡ Ok machine
  pub starts : Starts machine seen lines
