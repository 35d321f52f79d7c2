-- What holds in the loops of `Kernel::events`: one event after another.
use Rattle.std.proofs.Common.{take}
use Rattle.execmodel.specs.Step.{events}
use Rattle.execsim.specs.Agreement.{FollowsWhileGood}
use Rattle.execsim.proofs.kernel.Kernel.events.Given as goal

-- the events so far were followed
abbrev pub invariant-loop-one : goal.invariant-loop-one
invariant-loop-one g l = FollowsWhileGood g.W.Witness.hearing (events (take l.one-index l.list)) l.initial.self l.self (g.W.Witness.told l.initial.out) (g.W.Witness.told l.out)
