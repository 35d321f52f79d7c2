-- Why there is no answer over a text that is not at hand, or over a command line.
use Rattle.std.specs.Borrow.{Bor}
use Rattle.std.specs.Prelude.{◌≡◌, ⊤, ℕ, List}
use Rattle.execrun.specs.declared.unread.TextFault.{TextFault}
use Rattle.execrun.specs.declared.unread.TextFault.TheVariants as text
use Rattle.checker.specs.declared.failure.Failure.{Failure}
use Rattle.checker.specs.declared.failure.Failure.TheVariants.{NoMemory, CannotRead, CannotWrite, WriteFailed, Usage}

-- of the text at a path
abbrev pub failure_of : Bor (List ℕ) → TextFault → Failure
failure_of path text.NoMemory = NoMemory
failure_of path (text.CannotRead why) = CannotRead path why

-- memory was refused, or the text at the path cannot be read
abbrev pub IsOfText : Bor (List ℕ) → Failure → Type 0
IsOfText path NoMemory = ⊤
IsOfText path (CannotRead at why) = at ≡ path
IsOfText path (CannotWrite at why) = ⊥
IsOfText path WriteFailed = ⊥
IsOfText path (Usage sentence) = ⊥

-- the command line is refused
abbrev pub IsUsage : Failure → Type 0
IsUsage NoMemory = ⊥
IsUsage (CannotRead at why) = ⊥
IsUsage (CannotWrite at why) = ⊥
IsUsage WriteFailed = ⊥
IsUsage (Usage sentence) = ⊤
