-- The events of each alert so far end in it.
use Rattle.std.proofs.Common.{◌≡◌, All, take}
use Rattle.closure.specs.Closed.{IsShown}
use Rattle.closure.proofs.alerts.are_shown.Given as goal

abbrev pub invariant-loop-alert : goal.invariant-loop-alert
invariant-loop-alert g l = record {
  same : g.W.Walker.machine_of l.walker ≡ g.W.Walker.machine_of l.fn.walker;
  each : All (IsShown (g.W.Walker.machine_of l.fn.walker)) (take l.alert-index l.alerts);
}
