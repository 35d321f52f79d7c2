-- What holds in the loops of `home`: the place of the header in whose region an address lies.
use Rattle.std.proofs.Common.{◌≡◌, false}
use Rattle.std.specs.List.{AllWithin}
use Rattle.memlist.specs.{Areas.Area, Blocks.is_in}
use Rattle.memlist.proofs.memory.home.Given as goal

abbrev pub invariant-loop-place : goal.invariant-loop-place
invariant-loop-place l = AllWithin (λ (area : Area). is_in area.region l.address ≡ false) l.headers 0 l.place
