-- What holds in the loops of `softs_of`: the priorities of the software interrupts, in the order of the file.
use Rattle.std.proofs.Common.{◌≡◌, map, take}
use Rattle.execsim.proofs.boot.softs_of.Given as goal

-- the software interrupts so far have given their priorities
abbrev pub invariant-loop-softint : goal.invariant-loop-softint
invariant-loop-softint l = map (λ s. s.pri) l.softs.items ≡ map (λ s. s.pri) (take l.softint-index l.softints)
