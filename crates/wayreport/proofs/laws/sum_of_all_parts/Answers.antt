-- The proof of `sum_of_all_parts`: if each report has the outcomes of its part of some ways, the sum of the reports of
-- all parts has the outcomes of all ways.
use Rattle.wayreport.proofs.Parting as parting
use Rattle.wayreport.proofs.laws.sum_of_all_parts.Goals as goal

pub returns : goal.returns
returns c = λ seen ways reports parts some each. parting.sum_of_all_parts seen ways reports parts some each
