-- What holds in the loops of `Kernel::put_waits`: puts the line of the call of each task that waits.
use Rattle.exectrace.specs.Sink.{Puts}
use Rattle.execsim.specs.WaitingLines.{waits_text}
use Rattle.execsim.proofs.kernel.Kernel.put_waits.Given as goal

-- the lines of the tasks so far were put
abbrev pub invariant-loop-t : goal.invariant-loop-t
invariant-loop-t g l = Puts (g.W.Sink.tape l.initial.out) (g.W.Sink.tape l.out) (waits_text l.t l.self.schedule l.self.scripts)
