-- What holds in the loops of `largest_of`: the size of the greatest gap of the suitable regions, or 0 if there is none.
use Rattle.std.proofs.Common.{◌≡◌, drop, max}
use Rattle.memlist.specs.Choice.{largest_of}
use Rattle.memlist.proofs.memory.largest_of.Given as goal

abbrev pub invariant-loop-header : goal.invariant-loop-header
invariant-loop-header l = max l.largest (largest_of l.reqs (drop l.header-index l.headers)) ≡ largest_of l.reqs l.headers
