-- The proof of `title_in`: the last comma is before the number of outcomes, and the last colon before that of ways.
use Rattle.std.proofs.Common.{◌≡◌, ◌∙◌, ℕ, List, ◌++◌, ◌==◌, codes, decimal, sym, refl, append_assoc}
use Rattle.std.proofs.lemmas.Result.{err_from_is_err_and}
use Rattle.wayreport.specs.{Reports.ways_text, Reports.outcomes_text}
use Rattle.wayreport.proofs.Wording.{comma_other, colon_other, space_other, lacks-decimal, lacks-ways, lacks-outcomes, plural, ways_parts}
use Rattle.wayreport.proofs.reading.title_in.Goals as goal

apart : (title : List ℕ) (all outcomes : ℕ) → title ++ (codes ": " ++ (ways_text all ++ (codes ", " ++ outcomes_text outcomes))) ≡ (title ++ (codes ": " ++ ways_text all)) ++ (codes ", " ++ outcomes_text outcomes)
apart title all outcomes = sym (append_assoc title (codes ": " ++ ways_text all) (codes ", " ++ outcomes_text outcomes))

pub returns-in_err-front : goal.returns-in_err-front
returns-in_err-front c = λ title all outcomes small few is.
    let p = err_from_is_err_and c.from_residual.result c.from_residual.ensures.1 in
    rw (p.1, p.2) (c.in_err-front.ensures (title ++ (codes ": " ++ ways_text all)) (outcomes_text outcomes) (lacks-outcomes 44 comma_other refl refl outcomes few) (is ∙ apart title all outcomes))

pub returns-in_err-title : goal.returns-in_err-title
returns-in_err-title c = λ title all outcomes small few is.
    let p = err_from_is_err_and c.from_residual-in_err-title.result c.from_residual-in_err-title.ensures.1 in
    let one = c.in_ok-front.ensures (title ++ (codes ": " ++ ways_text all)) (outcomes_text outcomes) (lacks-outcomes 44 comma_other refl refl outcomes few) (is ∙ apart title all outcomes) in
    rw (p.1, p.2) (c.in_err-title.ensures title (ways_text all) (lacks-ways 58 colon_other refl refl all small) one.0)

pub returns-in_err-all : goal.returns-in_err-all
returns-in_err-all c = λ title all outcomes small few is.
    let p = err_from_is_err_and c.from_residual-in_err-all.result c.from_residual-in_err-all.ensures.1 in
    let one = c.in_ok-front.ensures (title ++ (codes ": " ++ ways_text all)) (outcomes_text outcomes) (lacks-outcomes 44 comma_other refl refl outcomes few) (is ∙ apart title all outcomes) in
    let two = c.in_ok-title.ensures title (ways_text all) (lacks-ways 58 colon_other refl refl all small) one.0 in
    rw (p.1, p.2) (c.in_err-all.ensures.parts (decimal all) (plural (all == 1)) (lacks-decimal 32 space_other all small) (two.1 ∙ ways_parts all))

pub returns-in_err-number_in : goal.returns-in_err-number_in
returns-in_err-number_in c = λ title all outcomes small few is.
    let p = err_from_is_err_and c.from_residual-in_err-number_in.result c.from_residual-in_err-number_in.ensures.1 in
    let one = c.in_ok-front.ensures (title ++ (codes ": " ++ ways_text all)) (outcomes_text outcomes) (lacks-outcomes 44 comma_other refl refl outcomes few) (is ∙ apart title all outcomes) in
    let two = c.in_ok-title.ensures title (ways_text all) (lacks-ways 58 colon_other refl refl all small) one.0 in
    let three = c.in_ok-all.ensures.parts (decimal all) (plural (all == 1)) (lacks-decimal 32 space_other all small) (two.1 ∙ ways_parts all) in
    rw (p.1, p.2) (c.in_err-number_in.ensures all small three.0)

pub returns : goal.returns
returns c = λ title all outcomes small few is.
    let one = c.in_ok-front.ensures (title ++ (codes ": " ++ ways_text all)) (outcomes_text outcomes) (lacks-outcomes 44 comma_other refl refl outcomes few) (is ∙ apart title all outcomes) in
    let two = c.in_ok-title.ensures title (ways_text all) (lacks-ways 58 colon_other refl refl all small) one.0 in
    let three = c.in_ok-all.ensures.parts (decimal all) (plural (all == 1)) (lacks-decimal 32 space_other all small) (two.1 ∙ ways_parts all) in
    (two.0, c.in_ok-number_in.ensures all small three.0)
