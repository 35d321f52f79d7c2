-- Outcomes of which a sum with none has as many are all different.
use Rattle.std.proofs.Common.{◌≡◌, ◌∙◌, ℕ, zero, suc, ◌+◌, ◌<◌, ◌≤◌, Bool, true, false, List, [], ◌∷◌, ◌++◌, length, get_or, map, if◌then◌else◌, ap, sym, refl, arith, append_assoc, append-nil, bytes_eq}
use Rattle.std.proofs.lemmas.List.{length-map}
use Rattle.ways.specs.Tables.{Entry, added, merged}
use Rattle.wayreport.specs.{Reports.found_view, declared.report.Found.Found}

abbrev Entries : Type 0
Entries = List (Entry (List ℕ))

-- an entry more makes a table longer by one, or not
added-length : (t : Entries) (e : Entry (List ℕ)) → length (added t e) ≤ length t + 1
added-length [] e = omega arith
added-length (x ∷ xs) e =
    let more = added-length xs e in
    elim (bytes_eq x.seen e.seen) as (λ b. length (if b then record { seen = x.seen; count = x.count + e.count; first = x.first } ∷ xs else x ∷ added xs e) ≤ length (x ∷ xs) + 1)
    [ true ↦ omega arith | false ↦ omega (arith, more) ]

added-new : (t : Entries) (e : Entry (List ℕ)) → length t + 1 ≤ length (added t e) → added t e ≡ t ++ e ∷ []
added-new [] e longer = refl
added-new (x ∷ xs) e longer =
    let P : Bool → Type 0 = λ b. length (x ∷ xs) + 1 ≤ length (if b then record { seen = x.seen; count = x.count + e.count; first = x.first } ∷ xs else x ∷ added xs e)
    → (if b then record { seen = x.seen; count = x.count + e.count; first = x.first } ∷ xs else x ∷ added xs e) ≡ x ∷ (xs ++ e ∷ []) in
    (elim (bytes_eq x.seen e.seen) as P
    [ true ↦ λ l. absurd (omega (arith, l)) | false ↦ λ l. ap (λ ys. x ∷ ys) (added-new xs e (omega (arith, l))) ]) longer

merged-length : (t es : Entries) → length (merged t es) ≤ length t + length es
merged-length t [] = omega arith
merged-length t (e ∷ es) =
    let one = added-length t e in
    let rest = merged-length (added t e) es in
    omega (arith, one, rest)

-- as long as both together, it is one after the other
merged-new : (t es : Entries) → length t + length es ≤ length (merged t es) → merged t es ≡ t ++ es
merged-new t [] longer = sym (append-nil t)
merged-new t (e ∷ es) longer =
    let one = added-length t e in
    let rest = merged-length (added t e) es in
    let new : added t e ≡ t ++ e ∷ [] = added-new t e (omega (arith, one, rest, longer)) in
    let longer' : length (added t e) + length es ≤ length (merged (added t e) es) = omega (arith, one, longer) in
    merged-new (added t e) es longer' ∙ (ap (λ l. l ++ es) new ∙ append_assoc t (e ∷ []) es)

pub all_new : (es : Entries) → length (merged [] es) ≡ length es → merged [] es ≡ es
all_new es is = merged-new [] es (omega (arith, is))

pub all_new_by_length : (found : List Found) (total : Entries) → total ≡ merged [] (map found_view found) → length total ≡ length found
    → merged [] (map found_view found) ≡ map found_view found
all_new_by_length found total is same = all_new (map found_view found) (ap length (sym is) ∙ (same ∙ sym (length-map found found_view)))

-- what is so of the count of each outcome is so of that of each entry
pub all_some : (found : List Found) → ((k : ℕ) (d : Found) → k < length found → 1 ≤ (get_or found k d).count)
    → (k : ℕ) (d : Entry (List ℕ)) → k < length (map found_view found) → 1 ≤ (get_or (map found_view found) k d).count
all_some [] each k d lt = absurd (omega (arith, lt))
all_some (x ∷ xs) each zero d lt = each 0 x (omega arith)
all_some (x ∷ xs) each (suc k) d lt = all_some xs (λ j e l. each (suc j) e (omega (arith, l))) k d (omega (arith, lt))
