-- What the command has written, by its status.
use Rattle.std.specs.{Borrow.Bor, Io.KnownBytes.Appends}
use Rattle.std.specs.Prelude.{◌≡◌, ◌==◌, ℕ, Bool, List, Some, codes, if◌then◌else◌}
use Rattle.clap.specs.Words.{Text, first_of, matches_of}
use Rattle.execrun.specs.{Running.Held, Texts.IsTextAt, Texts.TextAt}
use Rattle.everystate.specs.{CommandLine.command_line, Searched.Reports}

-- the status of a report: of a closed set without an alert, of one with alerts, and of one that is not closed
abbrev pub status_of : (is_closed : Bool) → (alerts : ℕ) → ℕ
status_of is_closed alerts = if is_closed then (if alerts == 0 then 0 else 3) else 5

-- The machine file at the path was read, as far as it is reported what is there, and the writer took the report of all
-- its states, whole. The status says whether the set of states is closed, and whether there are alerts.
pub record WritesStates (text_at : TextAt) (path : Bor (List ℕ)) (before after : Held) (status : ℕ) : Type 0 where
  pub text : List ℕ
  pub text_is : IsTextAt text_at path.now text
  pub name : List ℕ
  pub is_closed : Bool
  pub alerts : ℕ
  pub report : List ℕ
  pub reports : Reports text name is_closed alerts report
  pub takes : Appends before after report
  pub status_is : status ≡ status_of is_closed alerts

-- the same of the machine file whose path the words give
pub record WritesGiven (text_at : TextAt) (words : List Text) (before after : Held) (status : ℕ) : Type 0 where
  pub path : Bor (List ℕ)
  pub given : first_of (codes "MACHINE") (matches_of command_line words) ≡ Some path.now
  pub writes : WritesStates text_at path before after status
