-- No server of the chain so far is of lower priority.
use Rattle.std.proofs.Common.{◌≡◌, ◌++◌, take, drop}
use Rattle.execlist.specs.Order.{enqueue}
use Rattle.softint.specs.Interrupts.{server_pri}
use Rattle.softint.proofs.chain.place_for.Given as goal

abbrev pub invariant-loop-i : goal.invariant-loop-i
invariant-loop-i l = enqueue (server_pri l.servers) l.chain l.s ≡ take l.i l.chain ++ enqueue (server_pri l.servers) (drop l.i l.chain) l.s
