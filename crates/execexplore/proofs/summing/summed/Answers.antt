-- The proof of `summed`: reads the reports at some paths, and answers the report of the whole.
use Rattle.execexplore.proofs.summing.summed.Goals as goal

pub returns-clause-sum : goal.returns-clause-sum
returns-clause-sum g c = record {
  reports = c.in_ok-reports.reports.items;
  whole = c.in-Ok.whole;
  are = c.in_ok-reports.ensures.reports;
  sums = rw c.deref.ensures.value at c.in-Ok.ensures;
  text = c.in_ok-answer.ensures.text;
  mixed = c.in_ok-answer.ensures.mixed;
}
