-- The proof of `is_distinct`: a table that has as many entries as were added has them all.
use Rattle.std.proofs.Common.{rules}
use Rattle.wayreport.proofs.Distinct.{all_new_by_length}
use Rattle.wayreport.proofs.right.is_distinct.Goals as goal

pub returns-clause-is : goal.returns-clause-is
returns-clause-is c = λ so. all_new_by_length c.args.found.now c.args.total.now c.requires (search rules)
