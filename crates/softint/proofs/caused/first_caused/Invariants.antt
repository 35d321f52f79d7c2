-- Nothing is in the headers so far.
use Rattle.std.proofs.Common.{◌≡◌, ℕ, ◌<◌, None}
use Rattle.execlist.specs.{Order.first, Lists.sequence}
use Rattle.softint.proofs.caused.first_caused.Given as goal

abbrev pub invariant-loop-h : goal.invariant-loop-h
invariant-loop-h g l = (k : ℕ) → k < l.h → first (sequence (g.S.ListSpace.sequences l.caused) k) ≡ None
