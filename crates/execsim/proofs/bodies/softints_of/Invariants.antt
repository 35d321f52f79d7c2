-- the software interrupts so far are made
use Rattle.std.proofs.Common.{◌≡◌, map, take}
use Rattle.script.specs.Records as records
use Rattle.execsim.specs.Views.{softint_view}
use Rattle.execsim.proofs.bodies.softints_of.Given as goal

abbrev pub invariant-loop-softint : goal.invariant-loop-softint
invariant-loop-softint l = map softint_view l.made.items ≡ map records.softint_view (take l.softint-index l.softints)
