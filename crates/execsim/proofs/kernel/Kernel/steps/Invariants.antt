-- What holds in the loops of `Kernel::steps`: that many steps.
use Rattle.std.proofs.Common.{◌≤◌, ◌-◌}
use Rattle.execmodel.specs.Step.{steps}
use Rattle.execsim.specs.Agreement.{FollowsWhileGood}
use Rattle.execsim.proofs.kernel.Kernel.steps.Given as goal

-- the steps so far were followed
abbrev pub invariant-loop-done : goal.invariant-loop-done
invariant-loop-done g l = record {
  within : l.done ≤ l.n;
  follows : FollowsWhileGood g.W.Witness.hearing (steps l.done) l.initial.self l.self (g.W.Witness.told l.initial.out) (g.W.Witness.told l.out);
}

-- each turn does a step
abbrev pub decreases-loop-done : goal.decreases-loop-done
decreases-loop-done g l = l.n - l.done
