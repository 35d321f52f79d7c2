-- What holds in the loops of `total_size`.
use Rattle.std.proofs.Common.{◌≡◌, ◌*◌, ◌^◌, ◌≤◌, take}
use Rattle.memlist.specs.Regions.{total_size}
use Rattle.memlist.proofs.region.total_size.Given as goal

abbrev pub invariant-loop-region : goal.invariant-loop-region
invariant-loop-region l = (l.total ≡ total_size (take l.region-index l.regions)) × (l.total ≤ 2 ^ 32 * l.region-index)
