-- A walk over the states of a machine: the file that states the machine, and what the machine shows.
use Rattle.script.specs.File.{MachineData}
use Rattle.execsim.specs.Headline.{Shown}

pub record Walking : Type 0 where
  pub file : MachineData
  pub shown : Shown
