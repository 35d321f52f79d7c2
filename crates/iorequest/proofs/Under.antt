-- Whether any item of a list passes a test is reported by one item and those after it.
use Rattle.std.proofs.Common.{◌≡◌, ℕ, zero, suc, ◌+◌, ◌<◌, ◌≤◌, Bool, false, List, [], ◌∷◌, length, drop, slice_index_or, refl, ap, ◌∙◌, arith, ◌||◌, drop-cons}
use Rattle.std.specs.List.{list_any}

or_false : (a b : Bool) → a ≡ false → (a || b) ≡ b
or_false a b fails = ap (λ (t : Bool). t || b) fails

-- the item at i does not pass: those after it say
pub none_here : {A : Type 0} (test : A → Bool) (xs : List A) (i : ℕ) (d : A) → i < length xs → test (slice_index_or xs i d) ≡ false
    → list_any test (drop i xs) ≡ list_any test (drop (i + 1) xs)
none_here test xs i d small fails =
    let next : suc i ≡ i + 1 = omega arith in
    ap (list_any test) (drop-cons xs i d small) ∙ or_false (test (slice_index_or xs i d)) _ fails ∙ ap (λ k. list_any test (drop k xs)) next

-- after the last item there is none
pub none_behind : {A : Type 0} (test : A → Bool) (xs : List A) (i : ℕ) → length xs ≤ i → list_any test (drop i xs) ≡ false
none_behind test [] zero all = refl
none_behind test [] (suc i) all = refl
none_behind test (x ∷ xs) zero all = absurd (omega (arith, all))
none_behind test (x ∷ xs) (suc i) all = none_behind test xs i (omega (arith, all))
