-- The proof of `found_on`: the number, the count and the first way are between the marks.
use Rattle.std.proofs.Common.{◌≡◌, ◌∙◌, ℕ, List, [], ◌++◌, ◌==◌, codes, decimal, ap, refl}
use Rattle.std.proofs.lemmas.Result.{err_from_is_err_and}
use Rattle.ways.specs.Tables.{Entry}
use Rattle.wayreport.specs.Reports.{ways_text}
use Rattle.wayreport.proofs.Wording.{comma_other, colon_other, space_other, lacks-decimal, lacks-ways, plural, ways_parts}
use Rattle.wayreport.proofs.reading.found_on.Goals as goal

abbrev entry : List ℕ → ℕ → List ℕ → Entry (List ℕ)
entry seen count first = record { seen = seen; count = count; first = first }

same_entry : (s t f g : List ℕ) (m n : ℕ) → s ≡ t → m ≡ n → f ≡ g → entry s m f ≡ entry t n g
same_entry s t f g m n a b d = ap (λ (x : List ℕ). entry x m f) a ∙ (ap (λ (x : ℕ). entry t x f) b ∙ ap (λ (x : List ℕ). entry t n x) d)

pub returns-in_err-rest : goal.returns-in_err-rest
returns-in_err-rest c = λ number count first small few is.
    let p = err_from_is_err_and c.from_residual.result c.from_residual.ensures.1 in
    rw (p.1, p.2) (c.in_err-rest.ensures (decimal number) (ways_text count ++ (codes ", first " ++ first)) (lacks-decimal 58 colon_other number small) is)

pub returns-in_err-ways : goal.returns-in_err-ways
returns-in_err-ways c = λ number count first small few is.
    let p = err_from_is_err_and c.from_residual-in_err-ways.result c.from_residual-in_err-ways.ensures.1 in
    let one = c.in_ok-rest.ensures (decimal number) (ways_text count ++ (codes ", first " ++ first)) (lacks-decimal 58 colon_other number small) is in
    rw (p.1, p.2) (c.in_err-ways.ensures.parts (ways_text count) first (lacks-ways 44 comma_other refl refl count few) one.1)

pub returns-in_err-count : goal.returns-in_err-count
returns-in_err-count c = λ number count first small few is.
    let p = err_from_is_err_and c.from_residual-in_err-count.result c.from_residual-in_err-count.ensures.1 in
    let one = c.in_ok-rest.ensures (decimal number) (ways_text count ++ (codes ", first " ++ first)) (lacks-decimal 58 colon_other number small) is in
    let two = c.in_ok-ways.ensures.parts (ways_text count) first (lacks-ways 44 comma_other refl refl count few) one.1 in
    rw (p.1, p.2) (c.in_err-count.ensures.parts (decimal count) (plural (count == 1)) (lacks-decimal 32 space_other count few) (two.0 ∙ ways_parts count))

pub returns-in_err-number_in : goal.returns-in_err-number_in
returns-in_err-number_in c = λ number count first small few is.
    let p = err_from_is_err_and c.from_residual-in_err-number_in.result c.from_residual-in_err-number_in.ensures.1 in
    let one = c.in_ok-rest.ensures (decimal number) (ways_text count ++ (codes ", first " ++ first)) (lacks-decimal 58 colon_other number small) is in
    let two = c.in_ok-ways.ensures.parts (ways_text count) first (lacks-ways 44 comma_other refl refl count few) one.1 in
    let three = c.in_ok-count.ensures.parts (decimal count) (plural (count == 1)) (lacks-decimal 32 space_other count few) (two.0 ∙ ways_parts count) in
    rw (p.1, p.2) (c.in_err-number_in.ensures count few three.0)

pub returns : goal.returns
returns c = λ number count first small few is.
    let one = c.in_ok-rest.ensures (decimal number) (ways_text count ++ (codes ", first " ++ first)) (lacks-decimal 58 colon_other number small) is in
    let two = c.in_ok-ways.ensures.parts (ways_text count) first (lacks-ways 44 comma_other refl refl count few) one.1 in
    let three = c.in_ok-count.ensures.parts (decimal count) (plural (count == 1)) (lacks-decimal 32 space_other count few) (two.0 ∙ ways_parts count) in
    same_entry _ [] _ first _ count c.new.ensures.items (c.in_ok-number_in.ensures count few three.0) (c.in_ok-from_str.ensures.ok ∙ two.1)
