-- Refusals of calls on requests.
use Rattle.std.specs.Prelude.{ℕ}
use Rattle.iorequest.specs.declared.fault.ReqFault.TheVariants.{InUse, NotOpen, PoolFull}
use Rattle.iorequest.specs.declared.fault.ReqFault.{ReqFault}

-- the number of a fault (project rule)
abbrev pub fault_number : ReqFault → ℕ
fault_number InUse = 1
fault_number NotOpen = 2
fault_number PoolFull = 3
