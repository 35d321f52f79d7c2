-- The proof of `Kernel::run_one`: a software interrupt that may run does so, or else the running task does one command.
use Rattle.std.proofs.Common.{subst, sym}
use Rattle.execsim.specs.Reached.{IsInOrder}
use Rattle.execsim.proofs.Stepping.{acting_softint, acting_task}
use Rattle.execsim.proofs.kernel.Kernel.run_one.Goals as goal

pub returns-in-Some : goal.returns-in-Some
returns-in-Some g c = acting_softint _ (rw c.in-Some.is at c.take_softint.ensures.answer) (rw c.in-Some.is at c.take_softint.ensures.next) c.run_softint.ensures

pub returns-in-None : goal.returns-in-None
returns-in-None g c = acting_task (rw c.in-None.is at c.take_softint.ensures.answer) (rw c.in-None.is at c.take_softint.ensures.next) c.run_task.ensures

pub run_task-requires : goal.run_task-requires
run_task-requires g c =
    subst IsInOrder (sym c.take_softint.ensures.next) (record { queues = c.requires.queues; room = c.requires.room })
