-- What a call that may be refused returns, and what it leaves: by the fault, if there is one.
use Rattle.std.specs.Prelude.{Option, Some, None, Result, Ok, Err}

-- the fault, if there is one, and else the value
abbrev pub fault_or : {A F : Type 0} → Option F → A → Result A F
fault_or None value = Ok value
fault_or (Some fault) value = Err fault

-- what there was, if there is a fault, and else what is new
abbrev pub kept_or : {A F : Type 0} → Option F → (old new : A) → A
kept_or None old new = new
kept_or (Some fault) old new = old
