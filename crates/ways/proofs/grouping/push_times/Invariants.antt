-- The action was added as often as the counter says.
use Rattle.std.proofs.Common.{◌≡◌, ◌++◌, replicate}
use Rattle.ways.proofs.grouping.push_times.Given as goal

abbrev pub invariant-loop : goal.invariant-loop
invariant-loop l = l.actions.items ≡ l.fn.actions.items ++ replicate l.counter l.action
