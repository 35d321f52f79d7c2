-- Refusals of calls on ports and messages.
use Rattle.std.specs.Prelude.{ℕ}
use Rattle.msgport.specs.declared.fault.PortFault.TheVariants.{NotEmpty, Link, Unknown, PoolFull}
use Rattle.msgport.specs.declared.fault.PortFault.{PortFault}

-- the number of a fault (project rule)
abbrev pub fault_number : PortFault → ℕ
fault_number NotEmpty = 1
fault_number Link = 2
fault_number Unknown = 3
fault_number PoolFull = 4
