-- Machines whose words do not touch their memory.
use Rattle.std.specs.Prelude.{All}
use Rattle.script.specs.File.{MachineData, TaskData, SoftintData, ServerData}
use Rattle.statekeys.specs.Fits.{HasBareWord}

-- each command of each body of a machine is a word that neither asks for memory nor touches what lies in it
pub record IsBareMachine (machine : MachineData) : Type 0 where
  pub tasks : All (λ (task : TaskData). All HasBareWord task.code) machine.tasks
  pub softints : All (λ (softint : SoftintData). All HasBareWord softint.code) machine.softints
  pub servers : All (λ (server : ServerData). All HasBareWord server.code) machine.servers
