-- The proof of `regions_are_tiled`: blocks and gaps tile each region of a well-formed memory.
use Rattle.memlist.proofs.Tiling.{tiled}
use Rattle.memlist.proofs.laws.regions_are_tiled.Goals as goal

pub returns : goal.returns
returns c = tiled
