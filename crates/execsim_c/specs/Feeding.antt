-- What becomes of a machine that C keeps if a line is fed to a task of it.
use Rattle.std.specs.Prelude.{◌≡◌, ℕ, IsSome, IsUtf8, List, None, Some}
use Rattle.script.specs.Commands.{CommandData}
use Rattle.taskscript.specs.{Feeding.IsFed, Feeding.fed_said, Meaning.line_meaning}
use Rattle.execmodel.specs.{Feeding.fed_to, Feeding.does_input}
use Rattle.execmodel.specs.Feeding as model
use Rattle.execsim.specs.Readers.{task_seen}
use Rattle.execsim_c.specs.{Held.Kept, Stepping.Does, declared.session.Session.Session}

-- The command is the last one of the body of a task that is there, and nothing else changes; so the machine goes on as
-- the law of machines whose bodies grow says.
pub record FeedsCommand (task : ℕ) (command : CommandData) (old new : Session) : Type 0 where
  pub there : IsSome (task_seen task old.machine.seen)
  pub machine : new.machine ≡ record old.machine { seen = record old.machine.seen { scripts = fed_to task command old.machine.seen.scripts } }
  pub lines : new.lines ≡ old.lines
  pub does : Does (does_input (model.Feeds task command)) old.machine.seen new.machine.seen (Some old.lines.items) (Some new.lines.items)

-- so it is with the command that a line says
pub record FeedsLine (task : ℕ) (line : List ℕ) (old new : Session) : Type 0 where
  pub command : CommandData
  pub says : IsFed line command
  pub feeds : FeedsCommand task command old new

-- the handle has the machine to whose task the line was fed
pub record IsFedTo (task : ℕ) (line : List ℕ) (before now : Kept) : Type 0 where
  pub old : Session
  pub new : Session
  pub held : before ≡ Some old
  pub holds : now ≡ Some new
  pub feeds : FeedsLine task line old new

-- a line that is not a command without a variable and a jump; or it is not a text
abbrev pub CannotBeFed : List ℕ → Type 0
CannotBeFed line = IsUtf8 line → fed_said (line_meaning line) ≡ None
