-- What a text that is not at hand is to the program.
use Rattle.std.specs.Borrow.{Bor}
use Rattle.std.specs.Prelude.{ℕ, List}
use Rattle.execrun.specs.declared.fault.Fault.TheVariants.{NoMemory, CannotRead}
use Rattle.execrun.specs.declared.fault.Fault.{Fault}
use Rattle.execrun.specs.declared.unread.TextFault.{TextFault}
use Rattle.execrun.specs.declared.unread.TextFault.TheVariants as text

-- to the program, of a file at this path; it leaves out why
abbrev pub fault_at : Bor (List ℕ) → TextFault → Fault
fault_at path text.NoMemory = NoMemory
fault_at path (text.CannotRead why) = CannotRead path
