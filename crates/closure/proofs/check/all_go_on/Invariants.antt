-- Each kind so far has led to what was found.
use Rattle.std.proofs.Common.{◌≡◌, ◌<◌, ℕ, [], slice_index_or}
use Rattle.script.specs.declared.event.Event.{Event}
use Rattle.closure.specs.Closed.{GoesOn, IsNumber, lines_of}
use Rattle.closure.proofs.check.all_go_on.Given as goal

abbrev pub invariant-loop-kind : goal.invariant-loop-kind
invariant-loop-kind g l = record {
  same : g.W.Walker.machine_of l.walker ≡ g.W.Walker.machine_of l.fn.walker;
  each : (k : ℕ) → k < l.kind → (one : Event) → IsNumber l.kinds k one
      → GoesOn g.W.Walker.machine_of g.W.Walker.stands g.W.Walker.key (g.W.Walker.machine_of l.fn.walker) l.found.keys (lines_of l.found.alerts.items) (slice_index_or l.found.keys l.state []) one;
}
