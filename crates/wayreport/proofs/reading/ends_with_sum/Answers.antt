-- The proof of `ends_with_sum`: what is after the front is the sum.
use Rattle.std.proofs.Common.{◌∙◌, None, Some, codes}
use Rattle.wayreport.proofs.Cutting.{same_bytes, strip_text}
use Rattle.wayreport.proofs.reading.ends_with_sum.Goals as goal

pub returns-in-None : goal.returns-in-None
returns-in-None c = λ is. absurd (strip_text (codes "lines above: SHA-256 ") c.args.sum.now c.args.closing.now None c.in-None.ensures.cases is)

pub returns-in-Some : goal.returns-in-Some
returns-in-Some c = λ is.
    let rest = strip_text (codes "lines above: SHA-256 ") c.args.sum.now c.args.closing.now (Some c.in-Some.digits) c.in-Some.ensures.cases is in
    c.eq.ensures ∙ same_bytes c.in-Some.digits.now c.args.sum.now rest
