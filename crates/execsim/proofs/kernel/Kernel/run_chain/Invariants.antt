-- What holds in the loops of `Kernel::run_chain`: the servers of a source run one after another, until one claims the
-- interrupt, or an alert stops the machine.
use Rattle.execsim.specs.Agreement.{Follows, Seen}
use Rattle.execsim.proofs.Serving.{IsKnownFrom, rest_of_chain}
use Rattle.execsim.proofs.kernel.Kernel.run_chain.Given as goal

-- what the servers from this place on do ends what all of them do
abbrev pub invariant-loop-place : goal.invariant-loop-place
invariant-loop-place g l = record {
  known : IsKnownFrom l.initial.self l.self;
  rest : (n : Seen) (c : g.W.Witness.hearing.Told) → Follows g.W.Witness.hearing (rest_of_chain l.source l.place l.self) l.self n (g.W.Witness.told l.out) c
      → Follows g.W.Witness.hearing (rest_of_chain l.source 0 l.initial.self) l.initial.self n (g.W.Witness.told l.initial.out) c;
}
