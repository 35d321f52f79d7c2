-- No byte has no row.
use Rattle.std.proofs.Common.{arith}
use Rattle.std.proofs.lemmas.Bool.Decides.{nat_tests}
use Rattle.execlog.proofs.Laying.{lays_nothing}
use Rattle.execlog.proofs.plain.PlainForm.push_entry.Goals as goal

pub returns-then-is_empty : goal.returns-then-is_empty
returns-then-is_empty c = lays_nothing (grind (arith, nat_tests, c.if-is_empty.ensures))
