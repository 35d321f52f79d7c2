-- No node from here on is one of the header.
use Rattle.std.proofs.Common.{◌≡◌, ◌≤◌, take, length}
use Rattle.execlist.specs.{Lists.last, Plain.nodes_of}
use Rattle.execlist.proofs.plain.last_of.Given as goal

abbrev pub invariant-loop-i : goal.invariant-loop-i
invariant-loop-i l = (l.i ≤ length l.all) × (last (nodes_of l.homes l.h (take l.i l.all)) ≡ last (nodes_of l.homes l.h (take l.to l.all)))

abbrev pub decreases-loop-i : goal.decreases-loop-i
decreases-loop-i l = l.i
