-- No node so far is one of the header.
use Rattle.std.proofs.Common.{◌≡◌, drop}
use Rattle.execlist.specs.Plain.{nodes_of}
use Rattle.execlist.proofs.plain.first_of.Given as goal

abbrev pub invariant-loop-i : goal.invariant-loop-i
invariant-loop-i l = nodes_of l.homes l.h (drop l.i l.all) ≡ nodes_of l.homes l.h (drop l.from l.all)
