-- The proof of `read_report`: the report that is read prints the text of the one that was written.
use Rattle.std.proofs.Common.{◌≡◌, ◌∙◌, true, false, ap, sym}
use Rattle.wayreport.specs.Reports.{body_of, text_of}
use Rattle.wayreport.proofs.Cutting.{same_bytes}
use Rattle.wayreport.proofs.reading.read_report.Goals as goal

pub returns-else-eq-clause-written : goal.returns-else-eq-clause-written
returns-else-eq-clause-written c = λ r w is.
    let above = c.in_ok-lines_above.ensures (body_of r) (c.in_ok-shown.ensures.same ∙ is) in
    let view = c.in_ok-report.ensures r w above in
    let printed : c.as_slice.result.now ≡ c.args.text.now = c.as_slice.ensures.value ∙ (c.in_ok-printed.ensures ∙ (ap text_of view ∙ sym is)) in
    let no : true ≡ false = sym (same_bytes c.as_slice.result.now c.args.text.now printed) ∙ (sym c.eq.ensures ∙ c.if-eq.false) in
    absurd cc
