-- The measure of `are_arguments`: the kinds that are left.
use Rattle.std.proofs.Common.{length}
use Rattle.execadvice.proofs.reads.+are_arguments.Given as goal

abbrev pub decreases-are_arguments : goal.decreases-are_arguments
decreases-are_arguments l = length l.kinds.now
