-- The proof of `blocks_are_disjoint`: the blocks of a well-formed memory lie in its regions and do not meet.
use Rattle.memlist.proofs.Fitting.{disjoint}
use Rattle.memlist.proofs.laws.blocks_are_disjoint.Goals as goal

pub returns : goal.returns
returns c = disjoint
