-- What the code keeps, and that a task is once in the queue if it waits.
use Rattle.std.proofs.Common.{subst}
use Rattle.sigsem.specs.Semaphores.{IsSoundSemaphores}
use Rattle.sigsem.proofs.Waiting.{sound}
use Rattle.sigsem.proofs.sems.Sems.facts.Goals as goal

pub returns-clause-sound : goal.returns-clause-sound
returns-clause-sound g c = subst IsSoundSemaphores c.self.view_is (sound c.self.invariant (λ s t. g.met.S.ListSpace.stands c.self.inside.waiters s t))
