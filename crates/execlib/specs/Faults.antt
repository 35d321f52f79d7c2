-- Refusals of calls on libraries.
use Rattle.std.specs.Prelude.{ℕ}
use Rattle.execlib.specs.{declared.fault.LibFault.LibFault, declared.fault.LibFault.TheVariants.NotOpen}

-- the number of a fault (project rule)
abbrev pub fault_number : LibFault → ℕ
fault_number NotOpen = 1
