-- The proof of `cut`: the first mark is after a front that lacks its first byte.
use Rattle.std.proofs.Common.{None, Some}
use Rattle.wayreport.proofs.Cutting.{cut_text}
use Rattle.wayreport.proofs.reading.cut.Goals as goal

pub returns-in-None-clause-parts : goal.returns-in-None-clause-parts
returns-in-None-clause-parts c = λ front back lack is. absurd (cut_text c.args.mark.now front back c.args.text.now None c.in-None.ensures.cases lack is)

pub returns-in-Some-clause-parts : goal.returns-in-Some-clause-parts
returns-in-Some-clause-parts c = λ front back lack is. cut_text c.args.mark.now front back c.args.text.now (Some c.in-Some.parts) c.in-Some.ensures.cases lack is
