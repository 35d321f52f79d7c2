-- The proof of `report_in`: the lines before the outcomes, and those of the outcomes.
use Rattle.std.proofs.Common.{◌≡◌, ◌∙◌, ℕ, List, [], ◌++◌, length, codes, sym, subst, append_assoc}
use Rattle.std.proofs.lemmas.Result.{err_from_is_err_and}
use Rattle.wayreport.specs.{Reports.ReportData, Reports.body_of, Reports.entries_text, Reports.head_text, Written.Make}
use Rattle.wayreport.proofs.{Heads.same_report, Lining.entries_make}
use Rattle.wayreport.proofs.reading.report_in.Goals as goal

-- what is below the lines before the outcomes
abbrev below : ReportData → List ℕ
below r = entries_text 1 r.entries ++ codes "\n"

apart : (r : ReportData) → body_of r ≡ head_text (length r.entries) r ++ below r
apart r = append_assoc (head_text (length r.entries) r) (entries_text 1 r.entries) (codes "\n")

pub returns-in_err-head : goal.returns-in_err-head
returns-in_err-head c = λ r w is.
    let p = err_from_is_err_and c.from_residual.result c.from_residual.ensures.1 in
    rw (p.1, p.2) (c.in_err-head.ensures r (below r) w (is ∙ apart r))

pub returns-in_err-found_in : goal.returns-in_err-found_in
returns-in_err-found_in c = λ r w is.
    let p = err_from_is_err_and c.from_residual-in_err-found_in.result c.from_residual-in_err-found_in.ensures.1 in
    let head = c.in_ok-head.ensures r (below r) w (is ∙ apart r) in
    rw (p.1, p.2) (c.in_err-found_in.ensures r.entries (subst (λ t. Make [] t r.entries) (sym head.7) (entries_make r.entries w.entries w.outcomes)))

pub returns : goal.returns
returns c = λ r w is.
    let head = c.in_ok-head.ensures r (below r) w (is ∙ apart r) in
    let entries = c.in_ok-found_in.ensures r.entries (subst (λ t. Make [] t r.entries) (sym head.7) (entries_make r.entries w.entries w.outcomes)) in
    same_report r _ _ _ _ _ _ _ _ (c.in_ok-from_str.ensures.ok ∙ head.0) head.1 head.2 (c.in_ok-from_str-2.ensures.ok ∙ head.3) (c.in_ok-from_str-3.ensures.ok ∙ head.4)
    (c.in_ok-from_str-4.ensures.ok ∙ head.5) head.6 entries
