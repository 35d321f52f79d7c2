-- The proof of `Kernel::does_semaphores`: a call of task t on semaphores, by its word.
use Rattle.std.proofs.Common.{arith}
use Rattle.execsim.proofs.Reached.{runs_for_none}
use Rattle.execsim.proofs.kernel.Kernel.does_semaphores.Goals as goal

pub obtain_semaphore-requires-clause-stopped : goal.obtain_semaphore-requires-clause-stopped
obtain_semaphore-requires-clause-stopped g c = runs_for_none c.args.self.now c.args.t c.requires.runs c.requires.agree.queues

pub obtain_semaphore-requires-clause-room : goal.obtain_semaphore-requires-clause-room
obtain_semaphore-requires-clause-room g c = let known = c.requires.known in let room = c.requires.agree.room in omega (arith, known, room)

pub release_semaphore-requires-clause-agree : goal.release_semaphore-requires-clause-agree
release_semaphore-requires-clause-agree g c = c.requires.agree.queues
