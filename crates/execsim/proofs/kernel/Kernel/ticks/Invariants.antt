-- What holds in the loops of `Kernel::ticks`: that many ticks.
use Rattle.execmodel.specs.Step.{ticks}
use Rattle.execsim.specs.Agreement.{FollowsWhileGood}
use Rattle.execsim.proofs.kernel.Kernel.ticks.Given as goal

-- the ticks so far were followed
abbrev pub invariant-loop-tick : goal.invariant-loop-tick
invariant-loop-tick g l = FollowsWhileGood g.W.Witness.hearing (ticks l._tick) l.initial.self l.self (g.W.Witness.told l.initial.out) (g.W.Witness.told l.out)
