-- What reading up to a limit takes from a reader, and what a failed read is.
use Rattle.std.specs.Prelude.{◌≡◌, ◌≤◌, ◌+◌, ◌++◌, ℕ, List, Option, length}
use Rattle.std.specs.{Io.KnownBytes.Consumes, declared.io.ErrorKind.ErrorKind}
use Rattle.execsim.specs.declared.reading.ReadFault.TheVariants.{Failed, TooLong, OutOfMemory}
use Rattle.execsim.specs.declared.reading.ReadFault.{ReadFault}

-- the number of a fault (project rule)
abbrev pub read_fault_number : ReadFault → ℕ
read_fault_number Failed = 1
read_fault_number TooLong = 2
read_fault_number OutOfMemory = 3

-- memory that was refused, or an error of another kind
abbrev pub read_fault_of : ErrorKind → ReadFault
read_fault_of ErrorKind.OutOfMemory = OutOfMemory
read_fault_of kind = Failed

-- the reader gave some bytes, and they are after the old ones
abbrev pub Adds : Option (List ℕ) → Option (List ℕ) → List ℕ → List ℕ → Type 0
Adds before after old new = (bs : List ℕ) × Consumes before after bs × (new ≡ old ++ bs)

-- what the reader gave before a fault: exactly one byte past the limit before `TooLong`, none past it before a read
-- that failed, and at most one if memory was refused, to the bytes or to the reader
abbrev pub IsGivenBefore : ℕ → ReadFault → ℕ → Type 0
IsGivenBefore limit TooLong n = n ≡ limit + 1
IsGivenBefore limit Failed n = n ≤ limit
IsGivenBefore limit OutOfMemory n = n ≤ limit + 1

-- the reader gave as many bytes as the fault says
abbrev pub GaveBeforeFault : ℕ → ReadFault → Option (List ℕ) → Option (List ℕ) → Type 0
GaveBeforeFault limit fault before after = (bs : List ℕ) × Consumes before after bs × IsGivenBefore limit fault (length bs)
