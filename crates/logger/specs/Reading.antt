-- The run of two texts, or why there is none.
use Rattle.std.specs.Borrow.{Bor}
use Rattle.std.specs.Prelude.{◌≡◌, ◌≤◌, ◌⊎◌, ⊤, ℕ, IsOk, List, length, Result, Ok, Err, Option, Some}
use Rattle.taskscript.specs.{Events.script_of, File.file_of, Listings.listing_in}
use Rattle.execrun.specs.Texts.{TextAt, IsTextAt}
use Rattle.logforms.specs.declared.run.Run.{Run}
use Rattle.logger.specs.{Failing.status_of, declared.command_line.Paths.Paths, declared.failure.Failure.Failure}
use Rattle.logger.specs.declared.failure.Failure.TheVariants as failure

-- The run has the machine and the listing of the one text, and the events of the other.
pub record IsRunOf (machine events : List ℕ) (run : Run) : Type 0 where
  pub reads_file : file_of machine ≡ Ok run.listed.machine
  pub reads_listing : listing_in machine ≡ Some run.listed.listing
  pub reads_events : script_of events ≡ Ok run.events

-- Memory was refused, or a text is, by its fault: the machine file if it has one, whatever the event text is.
abbrev pub IsRefused : (machine events : List ℕ) → Failure → Type 0
IsRefused machine events failure.NoMemory = ⊤
IsRefused machine events (failure.Machine fault) = file_of machine ≡ Err fault
IsRefused machine events (failure.Events fault) = IsOk (file_of machine) × (script_of events ≡ Err fault)
IsRefused machine events other = ⊥

-- Both texts were read, as far as it is reported what is at the paths, and the run is theirs.
pub record RunsTexts (text_at : TextAt) (paths : Paths) (run : Run) : Type 0 where
  pub machine : List ℕ
  pub events : List ℕ
  pub machine_is : IsTextAt text_at paths.machine.now machine
  pub events_are : IsTextAt text_at paths.events.now events
  pub runs : IsRunOf machine events run

-- Both texts were read, and one of them is refused.
pub record RefusesTexts (text_at : TextAt) (paths : Paths) (why : Failure) : Type 0 where
  pub machine : List ℕ
  pub events : List ℕ
  pub machine_is : IsTextAt text_at paths.machine.now machine
  pub events_are : IsTextAt text_at paths.events.now events
  pub refused : IsRefused machine events why

-- one of the two paths
abbrev pub IsOneOf : Paths → Bor (List ℕ) → Type 0
IsOneOf paths path = (path ≡ paths.machine) ⊎ (path ≡ paths.events)

-- The texts at two paths were read, and have a run.
pub record RunsSome (text_at : TextAt) : Type 0 where
  pub paths : Paths
  pub run : Run
  pub runs : RunsTexts text_at paths run

-- The texts at two paths were read, and one of them is refused.
pub record RefusesSome (text_at : TextAt) : Type 0 where
  pub paths : Paths
  pub why : Failure
  pub status_is : status_of why ≡ 1
  pub refuses : RefusesTexts text_at paths why
