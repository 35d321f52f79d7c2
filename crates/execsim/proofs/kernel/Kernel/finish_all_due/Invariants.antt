-- What holds in the loops of `Kernel::finish_all_due`: all requests whose time has come finish, one after another: by
-- the due time when it came, and those of one due time in the order in which they were begun.
use Rattle.std.proofs.Common.{length}
use Rattle.timerdev.specs.Timing.{due_next}
use Rattle.execsim.proofs.Requesting.{EndsAll}
use Rattle.execsim.proofs.kernel.Kernel.finish_all_due.Given as goal

-- the requests that finish from now on end what all of them began
abbrev pub invariant-loop-request : goal.invariant-loop-request
invariant-loop-request g l = EndsAll g.W.Witness.hearing due_next l.initial.self (g.W.Witness.told l.initial.out) l.self (g.W.Witness.told l.out)

abbrev pub decreases-loop-request : goal.decreases-loop-request
decreases-loop-request g l = length l.self.memory.timer.waiting
