-- What holds in the loops of `installed_of`: the installed size of the suitable regions.
use Rattle.std.proofs.Common.{◌≡◌, ◌+◌, drop}
use Rattle.memlist.specs.Choice.{installed_of}
use Rattle.memlist.proofs.memory.installed_of.Given as goal

abbrev pub invariant-loop-header : goal.invariant-loop-header
invariant-loop-header l = l.total + installed_of l.reqs (drop l.header-index l.headers) ≡ installed_of l.reqs l.headers
