-- The chain so far is that of the servers so far.
use Rattle.std.proofs.Common.{◌≡◌}
use Rattle.softint.specs.Interrupts.{server_pri, serves}
use Rattle.softint.proofs.Chains.{chain_to}
use Rattle.softint.proofs.chain.chain_of.Given as goal

abbrev pub invariant-loop-s : goal.invariant-loop-s
invariant-loop-s l = l.chain.items ≡ chain_to (server_pri l.servers) (serves l.source l.servers) l.s
