-- The tables of the parts of some ways, and that of all of them.
use Rattle.std.proofs.Common.{◌≡◌, ◌∙◌, ℕ, zero, suc, true, false, ◌+◌, ◌*◌, ◌/◌, ◌-◌, ◌≤◌, List, [], ◌∷◌, ◌++◌, length, take, drop, map, if◌then◌else◌, refl, ap, ap₂, sym, arith, bytes_eq, mul-div_cancel, mul-suc, mul-zero, div-mul-le_self, take_all}
use Rattle.std.proofs.Math.Nat.{zero-div}
use Rattle.std.proofs.lemmas.Nat.{le-div}
use Rattle.script.specs.declared.event.Event.{Event}
use Rattle.ways.specs.{Tables.Entry, Tables.added, Tables.merged, Tables.table_of, Ways.part_of}
use Rattle.ways.proofs.Merging.{sum_of_parts}
use Rattle.wayreport.specs.{Parts.part_numbered, Reports.told, Sums.outcomes_in, Sums.summed, declared.report.Report.Report}

-- ---- the texts of first ways make no difference to a sum

told-added : (t : List (Entry (List Event))) (e : Entry (List Event)) → added (map told t) (told e) ≡ map told (added t e)
told-added [] e = refl
told-added (x ∷ xs) e =
    let both : Entry (List Event) = record { seen = x.seen; count = x.count + e.count; first = x.first } in
    elim (bytes_eq x.seen e.seen) as (λ b. (if b then told both ∷ map told xs else told x ∷ added (map told xs) (told e)) ≡ map told (if b then both ∷ xs else x ∷ added xs e))
    [ true ↦ refl | false ↦ ap (λ l. told x ∷ l) (told-added xs e) ]

told-merged : (t u : List (Entry (List Event))) → merged (map told t) (map told u) ≡ map told (merged t u)
told-merged t [] = refl
told-merged t (e ∷ es) = ap (λ l. merged l (map told es)) (told-added t e) ∙ told-merged (added t e) es

-- ---- the ways up to the end of a part

abbrev none : (A : Type 0) → List A
none A = []

take-nil : {A : Type 0} (n : ℕ) → take n (none A) ≡ none A
take-nil zero = refl
take-nil (suc n) = refl

split : {A : Type 0} (a b : ℕ) (xs : List A) → take a xs ++ take b (drop a xs) ≡ take (a + b) xs
split zero b xs = ap (λ n. take n xs) (omega arith)
split (suc a) b [] = take-nil b ∙ sym (take-nil (suc a + b))
split (suc a) b (x ∷ xs) =
    let e : suc (a + b) ≡ suc a + b = omega arith in
    ap (λ l. x ∷ l) (split a b xs) ∙ ap (λ n. take n (x ∷ xs)) e

-- the end of a part is no less than its begin
ends_later : (n k parts : ℕ) → 1 ≤ parts → n * k / parts ≤ n * suc k / parts
ends_later n k parts some =
    let below : n * k / parts * parts ≤ n * k = div-mul-le_self (n * k) parts in
    let more : n * suc k ≡ n * k + n = mul-suc n k in
    le-div (n * k / parts) (n * suc k) parts (omega (arith, some)) (omega (arith, below, more))

one_more : (seen : List Event → List ℕ) (ways : List (List Event)) (k parts : ℕ) → 1 ≤ parts
    → merged (table_of seen [] (take (length ways * k / parts) ways)) (table_of seen [] (part_numbered (suc k) parts ways)) ≡ table_of seen [] (take (length ways * suc k / parts) ways)
one_more seen ways k parts some =
    let a = length ways * k / parts in
    let b = length ways * suc k / parts in
    let later : a ≤ b = ends_later (length ways) k parts some in
    let e : suc k - 1 ≡ k = omega arith in
    ap (λ m. merged (table_of seen [] (take a ways)) (table_of seen [] (part_of (length ways * m / parts) (b - length ways * m / parts) ways))) e
    ∙ sym (sum_of_parts seen (take a ways) (take (b - a) (drop a ways)))
    ∙ ap (table_of seen []) (split a (b - a) ways ∙ ap (λ n. take n ways) (omega (arith, later)))

so_far : (seen : List Event → List ℕ) (ways : List (List Event)) (reports : List Report) (parts : ℕ) → 1 ≤ parts
    → ((number : ℕ) → 1 ≤ number → number ≤ parts → outcomes_in reports number ≡ map told (table_of seen [] (part_numbered number parts ways)))
    → (k : ℕ) → k ≤ parts → summed reports k ≡ map told (table_of seen [] (take (length ways * k / parts) ways))
so_far seen ways reports parts some each zero within =
    let none : length ways * 0 / parts ≡ 0 = ap (λ n. n / parts) (mul-zero (length ways)) ∙ zero-div parts in
    ap (λ n. map told (table_of seen [] (take n ways))) (sym none)
so_far seen ways reports parts some each (suc k) within =
    ap₂ merged (so_far seen ways reports parts some each k (omega (arith, within))) (each (suc k) (omega arith) within)
    ∙ (told-merged (table_of seen [] (take (length ways * k / parts) ways)) (table_of seen [] (part_numbered (suc k) parts ways))
    ∙ ap (map told) (one_more seen ways k parts some))

pub sum_of_all_parts : (seen : List Event → List ℕ) (ways : List (List Event)) (reports : List Report) (parts : ℕ) → 1 ≤ parts
    → ((number : ℕ) → 1 ≤ number → number ≤ parts → outcomes_in reports number ≡ map told (table_of seen [] (part_numbered number parts ways)))
    → summed reports parts ≡ map told (table_of seen [] ways)
sum_of_all_parts seen ways reports parts some each =
    so_far seen ways reports parts some each parts (omega arith)
    ∙ ap (λ l. map told (table_of seen [] l)) (ap (λ n. take n ways) (mul-div_cancel (length ways) (omega (arith, some))) ∙ take_all (length ways) ways (omega arith))
