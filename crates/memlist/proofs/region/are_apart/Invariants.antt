-- What holds in the loops of `are_apart`.
use Rattle.std.proofs.Common.{◌≡◌, drop}
use Rattle.memlist.specs.Regions.{are_apart}
use Rattle.memlist.proofs.region.are_apart.Given as goal

abbrev pub invariant-loop-i : goal.invariant-loop-i
invariant-loop-i l = are_apart (drop l.i l.regions) ≡ are_apart l.regions
