-- The report of a part, by its place.
use Rattle.std.proofs.Common.{◌≡◌, ◌∙◌, ℕ, true, false, ◌+◌, ◌<◌, Bool, List, ◌∷◌, length, drop, get_or, if◌then◌else◌, ap, sym}
use Rattle.std.proofs.lemmas.List.{drop_more}
use Rattle.wayreport.specs.{Sums.is_numbered, Sums.outcomes_in, Sums.outcomes_of, declared.report.Report.Report}

at : (reports : List Report) (i number : ℕ) (r : Report) → i < length reports → r ≡ get_or reports i r
    → outcomes_in (drop i reports) number ≡ (if is_numbered number r.part then outcomes_of r else outcomes_in (drop (i + 1) reports) number)
at reports i number r lt is = ap (λ l. outcomes_in l number) (drop_more reports i r lt ∙ ap (λ x. x ∷ drop (i + 1) reports) (sym is))

pub found_here : (reports : List Report) (i number : ℕ) (r : Report) → i < length reports → r ≡ get_or reports i r → is_numbered number r.part ≡ true
    → outcomes_in (drop i reports) number ≡ outcomes_of r
found_here reports i number r lt is so =
    at reports i number r lt is ∙ ap (λ (b : Bool). if b then outcomes_of r else outcomes_in (drop (i + 1) reports) number) so

pub passed : (reports : List Report) (i number : ℕ) (r : Report) → i < length reports → r ≡ get_or reports i r → is_numbered number r.part ≡ false
    → outcomes_in (drop i reports) number ≡ outcomes_in (drop (i + 1) reports) number
passed reports i number r lt is so =
    at reports i number r lt is ∙ ap (λ (b : Bool). if b then outcomes_of r else outcomes_in (drop (i + 1) reports) number) so
