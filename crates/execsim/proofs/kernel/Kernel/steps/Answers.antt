-- The proof of `Kernel::steps`: that many steps.
use Rattle.std.proofs.Common.{◌≡◌, ◌≤◌, ◌+◌, ℕ, subst, arith}
use Rattle.execmodel.specs.Step.{steps}
use Rattle.execsim.specs.Agreement.{FollowsWhileGood}
use Rattle.execsim.proofs.{Reached.agree_after_steps, Settling.then_steps, Stepping.no_steps}
use Rattle.execsim.proofs.kernel.Kernel.steps.Goals as goal

pub loop-done-init : goal.loop-done-init
loop-done-init g c = record { within = omega arith; follows = no_steps _ _ }

pub loop-done-preserved : goal.loop-done-preserved
loop-done-preserved g c = record {
  within = omega (arith, c.some_steps_while_good-done.ensures.within, c.loop-done-test.true);
  follows = then_steps _ _ c.loop-done.invariant.follows c.some_steps_while_good-done.ensures.follows;
}

pub some_steps_while_good-done-requires-clause-agree : goal.some_steps_while_good-done-requires-clause-agree
some_steps_while_good-done-requires-clause-agree g c = agree_after_steps _ c.requires c.loop-done.invariant.follows

pub returns : goal.returns
returns g c =
    let all : c.loop-done.done ≡ c.args.n = omega (arith, c.loop-done-test.false, c.loop-done.invariant.within) in
    subst (λ (n : ℕ). FollowsWhileGood g.W.Witness.hearing (steps n) c.args.self.now c.loop-done.self (g.W.Witness.told c.args.out.now) (g.W.Witness.told c.loop-done.out)) all
    c.loop-done.invariant.follows
