-- What a plain word changes, and what Print puts.
use Rattle.std.specs.Prelude.{◌≡◌, ℕ, Some, length, ◌∷◌, []}
use Rattle.exectrace.specs.Trace.{Done}
use Rattle.exectrace.specs.Hearing.{Hearing}
use Rattle.script.specs.{declared.word.Word.TheVariants.Plain, declared.word.plain.PlainWord.TheVariants.Print}
use Rattle.execmodel.specs.{State.Call, State.Scripts, State.State, State.Outcome, State.quiet, State.on_scripts, Calls.goes_on, Calls.next_call, Calls.stored}
use Rattle.execsim.specs.{declared.change.Change.Change, Agreement.Seen, Agreement.line_seen}

-- a variable of task t, or none, is given a value, and the task goes on at the place of the change
abbrev pub changes : ℕ → Change → State → Outcome
changes t change s =
    quiet (on_scripts (λ scripts. goes_on t change.next (stored t change.target change.value scripts)) s)

-- the next call of task t is a Print, whose line is put, and after it the task is to go on at that place
pub record PutsPrint (H : Hearing) (t next : ℕ) (seen : Seen) (before after : H.Told) : Type 0 where
  pub call : Call
  pub is : next_call t seen.scripts ≡ Some call
  pub prints : call.word ≡ Plain Print
  pub behind : call.next ≡ next
  pub line : H.hears before after (line_seen t call Done seen ∷ [])

-- what the tasks execute changes, of as many tasks, and nothing else
pub record ChangesScripts (old new : Seen) : Type 0 where
  pub scripts : Scripts
  pub is : new ≡ record old { scripts = scripts }
  pub tasks : length scripts.programs ≡ length old.scripts.programs
