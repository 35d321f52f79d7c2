-- What is left is still to be added.
use Rattle.std.proofs.Common.{◌≡◌, ◌++◌, drop}
use Rattle.ways.specs.Grouping.{grouped, joined}
use Rattle.ways.proofs.grouping.push_events.Given as goal

abbrev pub invariant-loop-action : goal.invariant-loop-action
invariant-loop-action l = l.found.items ++ joined l.event (grouped (drop l.action-index l.rest)) ≡ l.fn.found.items ++ joined l.fn.first (grouped l.fn.rest)
