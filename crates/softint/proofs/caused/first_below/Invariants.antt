-- Nothing is in the headers so far.
use Rattle.std.proofs.Common.{◌≡◌, ℕ, ◌<◌, ◌≤◌, ◌+◌, None}
use Rattle.execlist.specs.{Order.first, Lists.sequence}
use Rattle.softint.proofs.caused.first_below.Given as goal

abbrev pub invariant-loop-k : goal.invariant-loop-k
invariant-loop-k g l = (j : ℕ) → l.h + 1 ≤ j → j < l.k → first (sequence (g.S.ListSpace.sequences l.caused) j) ≡ None
