-- A set joined with another has a signal if either has it.
use Rattle.signals.proofs.Sets.{has_signal-or}
use Rattle.signals.proofs.laws.a_post_adds_the_mask.Goals as goal

pub returns : goal.returns
returns c = λ sets mask n. has_signal-or sets.received mask n
