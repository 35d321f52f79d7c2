-- The tasks from the last one so far on are noted.
use Rattle.std.proofs.Common.{◌-◌, length, map}
use Rattle.taskq.specs.Marks.{AreFirstsFrom}
use Rattle.taskq.proofs.names.set_firsts.Given as goal

abbrev pub invariant-loop-k : goal.invariant-loop-k
invariant-loop-k l = AreFirstsFrom (length l.names - l.k) l.firsts.items (map (λ n. n.bytes) l.names)
