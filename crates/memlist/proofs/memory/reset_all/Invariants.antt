-- What holds in the loop of `reset_all`: the headers so far are without blocks.
use Rattle.std.proofs.Common.{◌≡◌}
use Rattle.memlist.proofs.Resets.{reset_first}
use Rattle.memlist.proofs.memory.reset_all.Given as goal

abbrev pub invariant-loop-place : goal.invariant-loop-place
invariant-loop-place l = l.headers.items ≡ reset_first l.place l.initial.headers.items
