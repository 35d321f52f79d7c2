-- The words of the first of them are bare.
use Rattle.std.proofs.Common.{All, map, take}
use Rattle.script.specs.{File.SoftintData, Records.softint_view}
use Rattle.statekeys.specs.Fits.{HasBareWord}
use Rattle.statekeys.proofs.bare.are_bare_softints.Given as goal

abbrev pub invariant-loop-softint : goal.invariant-loop-softint
invariant-loop-softint l = All (λ (it : SoftintData). All HasBareWord it.code) (map softint_view (take l.softint-index l.softints))
