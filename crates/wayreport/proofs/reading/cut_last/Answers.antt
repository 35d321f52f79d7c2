-- The proof of `cut_last`: the last mark is before a text that lacks its first byte.
use Rattle.std.proofs.Common.{None, Some}
use Rattle.wayreport.proofs.Cutting.{cut_last_text}
use Rattle.wayreport.proofs.reading.cut_last.Goals as goal

pub returns-in-None : goal.returns-in-None
returns-in-None c = λ front back lack is. absurd (cut_last_text c.args.mark.now front back c.args.text.now None c.in-None.ensures.cases lack is)

pub returns-in-Some : goal.returns-in-Some
returns-in-Some c = λ front back lack is. cut_last_text c.args.mark.now front back c.args.text.now (Some c.in-Some.parts) c.in-Some.ensures.cases lack is
