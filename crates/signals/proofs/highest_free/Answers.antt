-- The signal that the loop stops at is the highest free one, and no other is.
use Rattle.std.proofs.Common.{rules}
use Rattle.signals.proofs.Highest.{highest_free-only}
use Rattle.signals.proofs.highest_free.Goals as goal

pub returns-clause-signal : goal.returns-clause-signal
returns-clause-signal c = highest_free-only _ _ (search rules)

pub returns-then-not-holds-clause-signal : goal.returns-then-not-holds-clause-signal
returns-then-not-holds-clause-signal c = highest_free-only _ _ (search rules)
