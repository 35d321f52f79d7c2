-- What holds in the loops of `same_bytes`: whether two texts have the same bytes.
use Rattle.std.proofs.Common.{◌≡◌, take}
use Rattle.execsim.proofs.bodies.same_bytes.Given as goal

-- the bytes so far are the same
abbrev pub invariant-loop-k : goal.invariant-loop-k
invariant-loop-k l = take l.k l.one ≡ take l.k l.other
