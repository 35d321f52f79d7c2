-- How often a request is in a sequence.
use Rattle.std.proofs.Common.{◌≡◌, ℕ, suc, ◌≤◌, Bool, true, false, cond, eqb, List, [], ◌∷◌, refl, ap, arith, inl, inr, ◌⊎◌, filter, eq-eqb, ne_eqb}
use Rattle.std.proofs.lemmas.Bool.{cond-true, cond-false, cases_eq}
use Rattle.execlist.specs.Lists.{times}
use Rattle.execlist.proofs.PlainLemmas.{times_later}

pub stands_here : (x : ℕ) (xs : List ℕ) → 1 ≤ times x (x ∷ xs)
stands_here x xs = omega (arith, cond-true (eqb x x) (suc (times x xs)) (times x xs) (eq-eqb x x refl))

-- a request that is in no place of a list is not in front of it
pub not_front : (t x : ℕ) (xs : List ℕ) → times t (x ∷ xs) ≡ 0 → x ≡ t → ⊥
not_front t x xs none same = omega (arith, none, stands_here x xs, ap (λ k. times k (x ∷ xs)) same)

pub not_behind : (t x : ℕ) (xs : List ℕ) → times t (x ∷ xs) ≡ 0 → times t xs ≡ 0
not_behind t x xs none = omega (arith, none, times_later t x xs)

-- what is in a list with one more in front is in the list, or is that one
pub is_front : (t x : ℕ) (xs : List ℕ) → 1 ≤ times t (x ∷ xs) → (x ≡ t) ⊎ (1 ≤ times t xs)
is_front t x xs here = by_case (cases_eq x t) where
  by_case : (x ≡ t) ⊎ (x ≡ t → ⊥) → (x ≡ t) ⊎ (1 ≤ times t xs)
  by_case (inl same) = inl same
  by_case (inr other) = inr (omega (arith, here, cond-false (eqb x t) (suc (times t xs)) (times t xs) (ne_eqb x t other)))

pub times_filter : (p : ℕ → Bool) (t : ℕ) (xs : List ℕ) → times t (filter p xs) ≤ times t xs
times_filter p t [] = omega arith
times_filter p t (x ∷ xs) = by_case (p x) (times_filter p t xs) where
  by_case : (b : Bool) → times t (filter p xs) ≤ times t xs → times t (cond b (x ∷ filter p xs) (filter p xs)) ≤ times t (x ∷ xs)
  by_case true ih = front (eqb x t) where
    front : (b : Bool) → cond b (suc (times t (filter p xs))) (times t (filter p xs)) ≤ cond b (suc (times t xs)) (times t xs)
    front true = omega (arith, ih)
    front false = ih
  by_case false ih = omega (arith, ih, times_later t x xs)
