-- What holds in the loops of `Kernel::finish_all_until`: all requests that wait for system time and whose time has come
-- finish, one after another: by their times, and those of one time in the order in which they were begun.
use Rattle.std.proofs.Common.{length}
use Rattle.timerdev.specs.Timing.{until_next}
use Rattle.execsim.proofs.Requesting.{EndsAll}
use Rattle.execsim.proofs.kernel.Kernel.finish_all_until.Given as goal

-- the requests that finish from now on end what all of them began
abbrev pub invariant-loop-request : goal.invariant-loop-request
invariant-loop-request g l = EndsAll g.W.Witness.hearing until_next l.initial.self (g.W.Witness.told l.initial.out) l.self (g.W.Witness.told l.out)

abbrev pub decreases-loop-request : goal.decreases-loop-request
decreases-loop-request g l = length l.self.memory.timer.waiting
