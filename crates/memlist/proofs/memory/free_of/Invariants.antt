-- What holds in the loops of `free_of`: the bytes that are free in the suitable regions.
use Rattle.std.proofs.Common.{◌≡◌, ◌+◌, drop}
use Rattle.memlist.specs.Choice.{free_of}
use Rattle.memlist.proofs.memory.free_of.Given as goal

abbrev pub invariant-loop-header : goal.invariant-loop-header
invariant-loop-header l = l.total + free_of l.reqs (drop l.header-index l.headers) ≡ free_of l.reqs l.headers
