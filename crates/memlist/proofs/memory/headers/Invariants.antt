-- What holds in the loops of `headers`: a header for each region.
use Rattle.std.proofs.Common.{◌≡◌, map, take}
use Rattle.memlist.specs.Areas.{empty_area}
use Rattle.memlist.proofs.memory.headers.Given as goal

abbrev pub invariant-loop-region : goal.invariant-loop-region
invariant-loop-region l = l.headers.items ≡ map empty_area (take l.region-index l.regions)
