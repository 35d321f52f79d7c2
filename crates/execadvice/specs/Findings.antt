-- What a finding says of a text.
use Rattle.std.specs.Prelude.{Option, Some, None, Result, Ok, Err}
use Rattle.taskscript.specs.{declared.place.Place.Place, declared.refused.Refused.Refused}

-- the fault that the reading of a text has, if it has one
abbrev pub fault_of : {X F : Type 0} → Result X F → Option F
fault_of (Ok x) = None
fault_of (Err fault) = Some fault

-- the place of the fault that the reading of a machine file has, if it has one
abbrev pub place_of : {X : Type 0} → Result X Refused → Option Place
place_of (Ok x) = None
place_of (Err refused) = Some refused.place
