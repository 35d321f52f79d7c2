-- Each line makes what is left shorter.
use Rattle.std.proofs.Common.{length}
use Rattle.logforms.proofs.rows.rows_of.Given as goal

abbrev pub decreases-loop-line : goal.decreases-loop-line
decreases-loop-line l = length l.rest
