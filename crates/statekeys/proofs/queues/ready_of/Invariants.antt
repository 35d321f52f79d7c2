-- What is in the list is the front of the queue, and what comes after the last of it is the rest.
use Rattle.std.proofs.Common.{◌≡◌, ◌++◌}
use Rattle.execlist.specs.Lists.{part_from}
use Rattle.statekeys.proofs.queues.ready_of.Given as goal

abbrev pub invariant-loop-round : goal.invariant-loop-round
invariant-loop-round l = l.machine.seen.schedule.queue.ready ≡ l.list.items ++ part_from l.after l.machine.seen.schedule.queue.ready
