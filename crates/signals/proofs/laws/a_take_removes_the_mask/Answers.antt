-- A set less a mask has the signals of the set that the mask lacks.
use Rattle.signals.proofs.Sets.{has_signal-without}
use Rattle.signals.proofs.laws.a_take_removes_the_mask.Goals as goal

pub returns : goal.returns
returns c = λ sets mask n fits last. has_signal-without sets.received mask n fits last
