-- The first tasks are added.
use Rattle.std.proofs.Common.{◌≡◌, ◌≤◌, ◌++◌, length}
use Rattle.statekeys.specs.Numbers.{tasks_numbers}
use Rattle.statekeys.proofs.key.push_tasks.Given as goal

abbrev pub invariant-loop-t : goal.invariant-loop-t
invariant-loop-t l = record {
  some : l.t ≤ length l.machine.seen.scripts.programs;
  numbers : l.numbers.items ≡ l.fn.numbers.items ++ tasks_numbers l.t l.machine.seen.schedule l.machine.seen.scripts;
}
