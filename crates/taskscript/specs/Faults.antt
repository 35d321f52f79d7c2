-- Faults: their numbers and names. A text is judged by the first of all its faults in their order.
use Rattle.std.specs.Prelude.{◌≡◌, ℕ, Bool, List, [], ◌∷◌, Some, None, Result, Ok, Err, codes, if◌then◌else◌}
use Rattle.execlist.specs.Order.{first}
use Rattle.taskscript.specs.declared.fault.FileFault.TheVariants.{NotToml, UnknownKey, MissingKey, BadValue, NameTwice, BadRegions, BadCommand, BadLabel, NotInInterrupt, TooMany, OutOfMemory}
use Rattle.taskscript.specs.{declared.fault.FileFault.FileFault, declared.refused.Refused.Refused, declared.fault.EventFault.EventFault}
use Rattle.taskscript.specs.declared.fault.EventFault.TheVariants as event

-- the number of a fault of a machine file (project rule)
abbrev pub file_fault_number : FileFault → ℕ
file_fault_number NotToml = 1
file_fault_number UnknownKey = 2
file_fault_number MissingKey = 3
file_fault_number BadValue = 4
file_fault_number NameTwice = 5
file_fault_number BadRegions = 6
file_fault_number BadCommand = 7
file_fault_number BadLabel = 8
file_fault_number NotInInterrupt = 9
file_fault_number TooMany = 10
file_fault_number OutOfMemory = 11

-- the name of a fault of a machine file (project rule)
abbrev pub file_fault_name : FileFault → List ℕ
file_fault_name NotToml = codes "NotToml"
file_fault_name UnknownKey = codes "UnknownKey"
file_fault_name MissingKey = codes "MissingKey"
file_fault_name BadValue = codes "BadValue"
file_fault_name NameTwice = codes "NameTwice"
file_fault_name BadRegions = codes "BadRegions"
file_fault_name BadCommand = codes "BadCommand"
file_fault_name BadLabel = codes "BadLabel"
file_fault_name NotInInterrupt = codes "NotInInterrupt"
file_fault_name TooMany = codes "TooMany"
file_fault_name OutOfMemory = codes "OutOfMemory"

-- the number of a fault of an event text (project rule)
abbrev pub event_fault_number : EventFault → ℕ
event_fault_number (event.BadLine line) = 1
event_fault_number event.TooMany = 2
event_fault_number event.OutOfMemory = 3

-- this fault, unless the test holds
abbrev pub check : Bool → FileFault → List FileFault
check good fault = if good then [] else fault ∷ []

-- the fault of a line is the first of these; out of memory may come at any allocation
abbrev pub IsFirstOfLine : FileFault → List FileFault → Type 0
IsFirstOfLine fault faults = ¬ (fault ≡ OutOfMemory) → first faults ≡ Some fault

-- a value if a line has no fault, which is then right, or else its first fault
abbrev pub JudgesLine : {X : Type 0} → Result X FileFault → List FileFault → (X → Type 0) → Type 0
JudgesLine (Ok x) faults right = (first faults ≡ None) × right x
JudgesLine (Err fault) faults right = IsFirstOfLine fault faults

-- the fault with its place is the first of these; out of memory may come at any allocation
abbrev pub IsFirst : Refused → List Refused → Type 0
IsFirst r faults = ¬ (r.fault ≡ OutOfMemory) → first faults ≡ Some r

-- a value if there is no fault, which is then right, or else the first fault with its place
abbrev pub Judges : {X : Type 0} → Result X Refused → List Refused → (X → Type 0) → Type 0
Judges (Ok x) faults right = (first faults ≡ None) × right x
Judges (Err r) faults right = IsFirst r faults
