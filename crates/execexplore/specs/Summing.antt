-- The sum of the reports at some paths.
use Rattle.std.specs.Borrow.{Bor}
use Rattle.std.specs.Prelude.{◌≡◌, ⊤, ℕ, ◌||◌, Bool, List, [], ◌∷◌, nat_lt, vec_len}
use Rattle.wayreport.specs.{Reports.report_view, Reports.text_of, Right.IsRight, Sums.IsSum, declared.report.Report.Report}
use Rattle.execrun.specs.Texts.{TextAt, IsTextAt}
use Rattle.execexplore.specs.{declared.failure.Failure.Failure, declared.whole.Answer.Answer}
use Rattle.execexplore.specs.declared.failure.Failure.TheVariants as failure

-- a report is right, and its text is what is at a path, as far as that is reported
abbrev pub IsAt : TextAt → List ℕ → Report → Type 0
IsAt text_at path report = IsRight (report_view report) × IsTextAt text_at path (text_of (report_view report))

-- these reports are at these paths, one at each
abbrev pub AreAt : TextAt → List (Bor (List ℕ)) → List Report → Type 0
AreAt text_at [] [] = ⊤
AreAt text_at [] (report ∷ reports) = ⊥
AreAt text_at (path ∷ paths) [] = ⊥
AreAt text_at (path ∷ paths) (report ∷ reports) = IsAt text_at path.now report × AreAt text_at paths reports

-- The reports at the paths are those of all parts of a search, and what is printed is the report of the whole. It is
-- mixed if there are several outcomes, or an alert.
pub record SumsTexts (text_at : TextAt) (paths : List (Bor (List ℕ))) (answer : Answer) : Type 0 where
  pub reports : List Report
  pub whole : Report
  pub are : AreAt text_at paths reports
  pub sums : IsSum reports whole
  pub text : answer.text.items ≡ text_of (report_view whole)
  pub mixed : answer.is_mixed ≡ (nat_lt 1 (vec_len whole.found) || nat_lt 0 whole.alerts)

-- Memory was refused, a path cannot be read, what is there is no report, or the reports have no sum.
abbrev pub IsOfSum : Failure → Type 0
IsOfSum failure.NoMemory = ⊤
IsOfSum (failure.CannotRead path why) = ⊤
IsOfSum (failure.NotAReport fault path) = ⊤
IsOfSum (failure.NoSum fault path) = ⊤
IsOfSum other = ⊥
