-- From each state so far each kind has led to what was found.
use Rattle.std.proofs.Common.{◌≡◌, ◌<◌, ℕ, [], length, slice_index_or}
use Rattle.script.specs.declared.event.Event.{Event}
use Rattle.closure.specs.Closed.{GoesOn, IsNumber, lines_of}
use Rattle.closure.proofs.check.is_closed.Given as goal

abbrev pub invariant-loop-state : goal.invariant-loop-state
invariant-loop-state g l = record {
  same : g.W.Walker.machine_of l.walker ≡ g.W.Walker.machine_of l.fn.walker;
  each : (i : ℕ) → i < l.state → (k : ℕ) (one : Event) → k < length l.kinds → IsNumber l.kinds k one
      → GoesOn g.W.Walker.machine_of g.W.Walker.stands g.W.Walker.key (g.W.Walker.machine_of l.fn.walker) l.found.keys (lines_of l.found.alerts.items) (slice_index_or l.found.keys i []) one;
}
