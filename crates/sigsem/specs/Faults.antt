-- Refusals of calls on semaphores.
use Rattle.std.specs.Prelude.{ℕ}
use Rattle.sigsem.specs.declared.fault.SemFault.TheVariants.{NotOwner, TooDeep, Busy, PoolFull}
use Rattle.sigsem.specs.declared.fault.SemFault.{SemFault}

-- the number of a fault (project rule)
abbrev pub fault_number : SemFault → ℕ
fault_number NotOwner = 1
fault_number TooDeep = 2
fault_number Busy = 3
fault_number PoolFull = 4
