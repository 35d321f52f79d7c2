-- The signals that were passed are all allocated.
use Rattle.std.proofs.Common.{ℕ, ◌≡◌, ◌≤◌, ◌<◌, true}
use Rattle.signals.specs.Signals.{has_signal}
use Rattle.signals.proofs.highest_free.Given as goal

abbrev pub invariant-loop-signal : goal.invariant-loop-signal
invariant-loop-signal l = (k : ℕ) → l.signal ≤ k → k < 32 → has_signal l.allocated k ≡ true
