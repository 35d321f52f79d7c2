-- What is left is still to be moved.
use Rattle.std.proofs.Common.{◌≡◌, ◌++◌}
use Rattle.ways.specs.Entries.{entries_in, entries_of}
use Rattle.ways.proofs.table.Table.into_outcomes.Given as goal

abbrev pub invariant-loop-seen : goal.invariant-loop-seen
invariant-loop-seen l = entries_of l.outcomes.items ++ entries_in l.seen-iterator ≡ l.fn.self
