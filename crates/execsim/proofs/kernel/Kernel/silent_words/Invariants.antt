-- What holds in the loops of `Kernel::silent_words`.
use Rattle.execsim.specs.{Advancing.GoesSilently, Resting.Rests}
use Rattle.execsim.proofs.kernel.Kernel.silent_words.Given as goal

-- the plain words so far were steps that printed nothing, and another one would be
abbrev pub invariant-loop-done : goal.invariant-loop-done
invariant-loop-done g l = record {
  rests : Rests l.t l.self;
  goes : GoesSilently l.done l.initial.self l.self;
}
