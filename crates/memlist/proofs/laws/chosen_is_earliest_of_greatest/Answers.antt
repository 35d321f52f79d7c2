-- The proof of `chosen_is_earliest_of_greatest`: the region that is chosen is the earliest among those of highest
-- priority, and none is chosen of none alone.
use Rattle.memlist.proofs.Fitting.{chosen_greatest, chosen_none}
use Rattle.memlist.proofs.laws.chosen_is_earliest_of_greatest.Goals as goal

pub returns-clause-some : goal.returns-clause-some
returns-clause-some c = chosen_greatest

pub returns-clause-none : goal.returns-clause-none
returns-clause-none c = chosen_none
