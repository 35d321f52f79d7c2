-- The proof of `end_asked`: does what is asked for, and says why it was not done.
use Rattle.std.proofs.Common.{◌∙◌, sym}
use Rattle.execexplore.proofs.SearchLemmas.{part_at}
use Rattle.execexplore.proofs.arguments.end_asked.Goals as goal

pub returns-in-Err-clause-refused : goal.returns-in-Err-clause-refused
returns-in-Err-clause-refused g c is =
    part_at _ _ _ c.in-Err.failure (sym c.report.ensures.is ∙ is) c.in-Err.ensures.fails c.in-Err.ensures.untouched
