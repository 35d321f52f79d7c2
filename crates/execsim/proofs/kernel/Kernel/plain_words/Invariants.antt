-- What holds in the loops of `Kernel::plain_words`.
use Rattle.execmodel.specs.Step.{steps}
use Rattle.execsim.specs.{Agreement.Follows, Resting.Rests}
use Rattle.execsim.proofs.kernel.Kernel.plain_words.Given as goal

-- the plain words so far were steps, and another one would be
abbrev pub invariant-loop-done : goal.invariant-loop-done
invariant-loop-done g l = record {
  rests : Rests l.t l.self;
  follows : Follows g.W.Witness.hearing (steps l.done) l.initial.self l.self (g.W.Witness.told l.initial.out) (g.W.Witness.told l.out);
}
