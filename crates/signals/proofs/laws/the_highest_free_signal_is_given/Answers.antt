-- The signal found by going down from 31 is free, and all above it are allocated.
use Rattle.signals.proofs.Highest.{highest_free-is_highest}
use Rattle.signals.proofs.laws.the_highest_free_signal_is_given.Goals as goal

pub returns : goal.returns
returns c = highest_free-is_highest
