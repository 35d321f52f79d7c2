-- What a search looks at: the machine file whose ways are run, and what is seen of a way.
use Rattle.script.specs.File.{MachineData}
use Rattle.wayrun.specs.declared.see.See.{See}

pub record Sought : Type 0 where
  pub file : MachineData
  pub see : See
