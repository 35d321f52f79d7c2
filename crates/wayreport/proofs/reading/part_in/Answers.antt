-- The proof of `part_in`: each number is before the next mark.
use Rattle.std.proofs.Common.{◌≡◌, ◌∙◌, ℕ, ◌<◌, ◌^◌, List, ◌++◌, ◌==◌, codes, decimal, ap, arith}
use Rattle.std.proofs.lemmas.Result.{err_from_is_err_and}
use Rattle.wayreport.specs.{Reports.ways_text, declared.report.Part.Part}
use Rattle.wayreport.proofs.Wording.{colon_other, space_other, lacks-decimal, plural, ways_parts}
use Rattle.wayreport.proofs.reading.part_in.Goals as goal

same_part : (number of ways : ℕ) (part : Part) → number ≡ part.number → of ≡ part.of → ways ≡ part.ways → record { number = number; of = of; ways = ways } ≡ part
same_part number of ways part a b w =
    ap (λ (n : ℕ). record { number = n; of = of; ways = ways }) a
    ∙ (ap (λ (n : ℕ). record { number = part.number; of = n; ways = ways }) b ∙ ap (λ (n : ℕ). record { number = part.number; of = part.of; ways = n }) w)

abbrev ending : Part → List ℕ
ending part = decimal part.of ++ (codes ": " ++ ways_text part.ways)

wide : (n : ℕ) → n < 2 ^ 32 → n < 2 ^ 64
wide n small = omega (arith, small)

pub returns-in_err-number : goal.returns-in_err-number
returns-in_err-number c = λ part fits is.
    let p = err_from_is_err_and c.from_residual.result c.from_residual.ensures.1 in
    rw (p.1, p.2) (c.in_err-number.ensures (decimal part.number) (ending part) (lacks-decimal 32 space_other part.number (wide part.number fits.number)) is)

pub returns-in_err-of : goal.returns-in_err-of
returns-in_err-of c = λ part fits is.
    let p = err_from_is_err_and c.from_residual-in_err-of.result c.from_residual-in_err-of.ensures.1 in
    let one = c.in_ok-number.ensures (decimal part.number) (ending part) (lacks-decimal 32 space_other part.number (wide part.number fits.number)) is in
    rw (p.1, p.2) (c.in_err-of.ensures.parts (decimal part.of) (ways_text part.ways) (lacks-decimal 58 colon_other part.of (wide part.of fits.of)) one.1)

pub returns-in_err-ways : goal.returns-in_err-ways
returns-in_err-ways c = λ part fits is.
    let p = err_from_is_err_and c.from_residual-in_err-ways.result c.from_residual-in_err-ways.ensures.1 in
    let one = c.in_ok-number.ensures (decimal part.number) (ending part) (lacks-decimal 32 space_other part.number (wide part.number fits.number)) is in
    let two = c.in_ok-of.ensures.parts (decimal part.of) (ways_text part.ways) (lacks-decimal 58 colon_other part.of (wide part.of fits.of)) one.1 in
    rw (p.1, p.2) (c.in_err-ways.ensures.parts (decimal part.ways) (plural (part.ways == 1)) (lacks-decimal 32 space_other part.ways fits.ways) (two.1 ∙ ways_parts part.ways))

pub returns-in_err-small_number_in : goal.returns-in_err-small_number_in
returns-in_err-small_number_in c = λ part fits is.
    let p = err_from_is_err_and c.from_residual-in_err-small_number_in.result c.from_residual-in_err-small_number_in.ensures.1 in
    let one = c.in_ok-number.ensures (decimal part.number) (ending part) (lacks-decimal 32 space_other part.number (wide part.number fits.number)) is in
    rw (p.1, p.2) (c.in_err-small_number_in.ensures part.number fits.number one.0)

pub returns-in_err-small_number_in-2 : goal.returns-in_err-small_number_in-2
returns-in_err-small_number_in-2 c = λ part fits is.
    let p = err_from_is_err_and c.from_residual-in_err-small_number_in-2.result c.from_residual-in_err-small_number_in-2.ensures.1 in
    let one = c.in_ok-number.ensures (decimal part.number) (ending part) (lacks-decimal 32 space_other part.number (wide part.number fits.number)) is in
    let two = c.in_ok-of.ensures.parts (decimal part.of) (ways_text part.ways) (lacks-decimal 58 colon_other part.of (wide part.of fits.of)) one.1 in
    rw (p.1, p.2) (c.in_err-small_number_in-2.ensures part.of fits.of two.0)

pub returns-in_err-number_in : goal.returns-in_err-number_in
returns-in_err-number_in c = λ part fits is.
    let p = err_from_is_err_and c.from_residual-in_err-number_in.result c.from_residual-in_err-number_in.ensures.1 in
    let one = c.in_ok-number.ensures (decimal part.number) (ending part) (lacks-decimal 32 space_other part.number (wide part.number fits.number)) is in
    let two = c.in_ok-of.ensures.parts (decimal part.of) (ways_text part.ways) (lacks-decimal 58 colon_other part.of (wide part.of fits.of)) one.1 in
    let three = c.in_ok-ways.ensures.parts (decimal part.ways) (plural (part.ways == 1)) (lacks-decimal 32 space_other part.ways fits.ways) (two.1 ∙ ways_parts part.ways) in
    rw (p.1, p.2) (c.in_err-number_in.ensures part.ways fits.ways three.0)

pub returns : goal.returns
returns c = λ part fits is.
    let one = c.in_ok-number.ensures (decimal part.number) (ending part) (lacks-decimal 32 space_other part.number (wide part.number fits.number)) is in
    let two = c.in_ok-of.ensures.parts (decimal part.of) (ways_text part.ways) (lacks-decimal 58 colon_other part.of (wide part.of fits.of)) one.1 in
    let three = c.in_ok-ways.ensures.parts (decimal part.ways) (plural (part.ways == 1)) (lacks-decimal 32 space_other part.ways fits.ways) (two.1 ∙ ways_parts part.ways) in
    same_part _ _ _ part (c.in_ok-small_number_in.ensures part.number fits.number one.0) (c.in_ok-small_number_in-2.ensures part.of fits.of two.0) (c.in_ok-number_in.ensures part.ways fits.ways three.0)
