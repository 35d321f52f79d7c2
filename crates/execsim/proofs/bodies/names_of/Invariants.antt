-- the names so far are put in
use Rattle.std.proofs.Common.{◌≡◌, map, take}
use Rattle.script.specs.{Machines.softint_names, Names.texts, Records.softint_view}
use Rattle.execsim.proofs.bodies.names_of.Given as goal

abbrev pub invariant-loop-softint : goal.invariant-loop-softint
invariant-loop-softint l = texts l.names.keys ≡ softint_names (map softint_view (take l.softint-index l.softints))
