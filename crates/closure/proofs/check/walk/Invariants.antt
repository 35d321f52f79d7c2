-- So far the walker has gone along the first events.
use Rattle.std.proofs.Common.{◌≡◌, take}
use Rattle.closure.proofs.check.walk.Given as goal

abbrev pub invariant-loop-one : goal.invariant-loop-one
invariant-loop-one g l = record {
  same : g.W.Walker.machine_of l.walker ≡ g.W.Walker.machine_of l.fn.walker;
  there : g.W.Walker.stands l.walker (take l.one-index l.list);
}
