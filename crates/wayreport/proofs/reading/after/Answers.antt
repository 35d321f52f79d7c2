-- The proof of `after`: what is after the front.
use Rattle.std.proofs.Common.{None, Some}
use Rattle.wayreport.proofs.Cutting.{strip_text}
use Rattle.wayreport.proofs.reading.after.Goals as goal

pub returns-in-None : goal.returns-in-None
returns-in-None c = λ rest is. absurd (strip_text c.args.front.now rest c.args.text.now None c.in-None.ensures.cases is)

pub returns-in-Some : goal.returns-in-Some
returns-in-Some c = λ rest is. strip_text c.args.front.now rest c.args.text.now (Some c.in-Some.rest) c.in-Some.ensures.cases is
