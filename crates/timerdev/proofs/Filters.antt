-- The requests that pass a test, and the records of those that wait, if one more comes or one goes.
use Rattle.std.proofs.Common.{◌≡◌, ℕ, zero, suc, ◌≤◌, Bool, true, false, cond, not, eqb, List, [], ◌∷◌, ◌++◌, refl, sym, ap, ◌∙◌, arith, inl, inr, ◌⊎◌, ◌||◌, IsTrue, filter, All, eq-eqb, ne_eqb}
use Rattle.std.specs.List.{list_any}
use Rattle.std.proofs.lemmas.Bool.{cond-true, cond-false, cases_eq}
use Rattle.execlist.specs.{Order.without_item, Lists.times}
use Rattle.execlist.proofs.PlainLemmas.{times_later}
use Rattle.timerdev.specs.{Timing.Due, Timing.Waiting, Held.waiting_for}
use Rattle.timerdev.proofs.Times.{not_front, not_behind, stands_here}

-- what holds of each request that is in a list holds at each place of it
pub all_that_stand : (P : ℕ → Type 0) (xs : List ℕ) → ((t : ℕ) → 1 ≤ times t xs → P t) → All P xs
all_that_stand P [] each k d l = absurd (omega (arith, l))
all_that_stand P (x ∷ xs) each zero d l = each x (stands_here x xs)
all_that_stand P (x ∷ xs) each (suc k) d l =
    all_that_stand P xs (λ t here. each t (omega (arith, here, times_later t x xs))) k d (omega (arith, l))

-- two tests that agree on all that are there
pub filter_agrees : (p q : ℕ → Bool) (xs : List ℕ) → ((t : ℕ) → 1 ≤ times t xs → q t ≡ p t) → filter q xs ≡ filter p xs
filter_agrees p q [] each = refl
filter_agrees p q (x ∷ xs) each =
    ap (λ b. cond b (x ∷ filter q xs) (filter q xs)) (each x (stands_here x xs))
    ∙ ap (λ l. cond (p x) (x ∷ l) l) (filter_agrees p q xs (λ t here. each t (omega (arith, here, times_later t x xs))))

-- one more, of which alone the tests may differ
pub filter_joined : (p q : ℕ → Bool) (r : ℕ) (xs : List ℕ) → times r xs ≡ 0 → ((t : ℕ) → (t ≡ r → ⊥) → q t ≡ p t)
    → filter q (xs ++ r ∷ []) ≡ filter p xs ++ cond (q r) (r ∷ []) []
filter_joined p q r [] none same = refl
filter_joined p q r (x ∷ xs) none same =
    ap (λ b. cond b (x ∷ filter q (xs ++ r ∷ [])) (filter q (xs ++ r ∷ []))) (same x (not_front r x xs none))
    ∙ by_case (p x) (filter_joined p q r xs (not_behind r x xs none) same) where
      by_case : (b : Bool) → filter q (xs ++ r ∷ []) ≡ filter p xs ++ cond (q r) (r ∷ []) []
          → cond b (x ∷ filter q (xs ++ r ∷ [])) (filter q (xs ++ r ∷ []))
          ≡ cond b (x ∷ filter p xs) (filter p xs) ++ cond (q r) (r ∷ []) []
      by_case true ih = ap (λ l. x ∷ l) ih
      by_case false ih = ih

-- one less, of which alone the tests may differ
pub filter_left : (p q : ℕ → Bool) (r : ℕ) (xs : List ℕ) → ((t : ℕ) → (t ≡ r → ⊥) → q t ≡ p t)
    → filter q (without_item r xs) ≡ without_item r (filter p xs)
filter_left p q r [] same = refl
filter_left p q r (x ∷ xs) same = by_case (cases_eq x r) (filter_left p q r xs same) where
  by_case : (x ≡ r) ⊎ (x ≡ r → ⊥) → filter q (without_item r xs) ≡ without_item r (filter p xs)
      → filter q (without_item r (x ∷ xs)) ≡ without_item r (filter p (x ∷ xs))
  by_case (inl here) ih = ap (filter q) (cond-false _ _ _ gone) ∙ ih ∙ sym (dropped (p x)) where
    gone : not (eqb x r) ≡ false
    gone = ap not (eq-eqb x r here)

    dropped : (b : Bool) → without_item r (cond b (x ∷ filter p xs) (filter p xs)) ≡ without_item r (filter p xs)
    dropped true = cond-false _ _ _ gone
    dropped false = refl
  by_case (inr other) ih =
      ap (filter q) (cond-true _ _ _ stays)
      ∙ ap (λ b. cond b (x ∷ filter q (without_item r xs)) (filter q (without_item r xs))) (same x other)
      ∙ ap (λ l. cond (p x) (x ∷ l) l) ih
      ∙ sym (kept (p x)) where
        stays : not (eqb x r) ≡ true
        stays = ap not (ne_eqb x r other)

        kept : (b : Bool) → without_item r (cond b (x ∷ filter p xs) (filter p xs))
            ≡ cond b (x ∷ without_item r (filter p xs)) (without_item r (filter p xs))
        kept true = cond-true _ _ _ stays
        kept false = refl

-- ---- the records of those that wait

pub waiting_joined : (d e : ℕ → Due) (r : ℕ) (xs : List ℕ) → times r xs ≡ 0 → ((t : ℕ) → (t ≡ r → ⊥) → e t ≡ d t)
    → waiting_for e (xs ++ r ∷ []) ≡ waiting_for d xs ++ record { request = r; due = e r } ∷ []
waiting_joined d e r [] none same = refl
waiting_joined d e r (x ∷ xs) none same =
    ap (λ (o : Due). record { request = x; due = o } ∷ waiting_for e (xs ++ r ∷ [])) (same x (not_front r x xs none))
    ∙ ap (λ (l : List Waiting). record { request = x; due = d x } ∷ l) (waiting_joined d e r xs (not_behind r x xs none) same)

pub waiting_left : (d e : ℕ → Due) (r : ℕ) (xs : List ℕ) → ((t : ℕ) → (t ≡ r → ⊥) → e t ≡ d t)
    → waiting_for e (without_item r xs) ≡ filter (λ (w : Waiting). not (eqb w.request r)) (waiting_for d xs)
waiting_left d e r [] same = refl
waiting_left d e r (x ∷ xs) same = by_case (cases_eq x r) (waiting_left d e r xs same) where
  others : List Waiting
  others = filter (λ (w : Waiting). not (eqb w.request r)) (waiting_for d xs)

  by_case : (x ≡ r) ⊎ (x ≡ r → ⊥) → waiting_for e (without_item r xs) ≡ filter (λ (w : Waiting). not (eqb w.request r)) (waiting_for d xs)
      → waiting_for e (without_item r (x ∷ xs)) ≡ filter (λ (w : Waiting). not (eqb w.request r)) (waiting_for d (x ∷ xs))
  by_case (inl here) ih =
      let gone = ap not (eq-eqb x r here) in
      ap (waiting_for e) (cond-false _ _ _ gone) ∙ ih ∙ sym (cond-false _ _ _ gone)
  by_case (inr other) ih =
      let stays = ap not (ne_eqb x r other) in
      ap (waiting_for e) (cond-true _ _ _ stays)
      ∙ ap (λ (o : Due). record { request = x; due = o } ∷ waiting_for e (without_item r xs)) (same x other)
      ∙ ap (λ (l : List Waiting). record { request = x; due = d x } ∷ l) ih
      ∙ sym (cond-true _ _ _ stays)

-- a request is among those that wait exactly if it is in their order
pub waits_where_it_stands : (d : ℕ → Due) (r : ℕ) (xs : List ℕ) → list_any (λ (w : Waiting). eqb w.request r) (waiting_for d xs)
    ≡ not (eqb (times r xs) 0)
waits_where_it_stands d r [] = refl
waits_where_it_stands d r (x ∷ xs) = by_case (eqb x r) (waits_where_it_stands d r xs) where
  by_case : (b : Bool) → list_any (λ (w : Waiting). eqb w.request r) (waiting_for d xs) ≡ not (eqb (times r xs) 0)
      → (b || list_any (λ (w : Waiting). eqb w.request r) (waiting_for d xs)) ≡ not (eqb (cond b (suc (times r xs)) (times r xs)) 0)
  by_case true ih = sym (ap not (ne_eqb (suc (times r xs)) 0 (λ e. omega (arith, e))))
  by_case false ih = ih

pub one_that_waits : (d : ℕ → Due) (r : ℕ) (xs : List ℕ) → IsTrue (list_any (λ (w : Waiting). eqb w.request r) (waiting_for d xs))
    → 1 ≤ times r xs
one_that_waits d r xs waits = by_case (cases_eq (times r xs) 0) where
  by_case : (times r xs ≡ 0) ⊎ (times r xs ≡ 0 → ⊥) → 1 ≤ times r xs
  by_case (inl none) = let bad : false ≡ true = sym (ap not (eq-eqb (times r xs) 0 none)) ∙ sym (waits_where_it_stands d r xs) ∙ waits in cc
  by_case (inr some) = omega (arith, some)

pub one_that_is_loose : (d : ℕ → Due) (r : ℕ) (xs : List ℕ) → IsTrue (not (list_any (λ (w : Waiting). eqb w.request r) (waiting_for d xs)))
    → times r xs ≡ 0
one_that_is_loose d r xs loose = by_case (cases_eq (times r xs) 0) where
  by_case : (times r xs ≡ 0) ⊎ (times r xs ≡ 0 → ⊥) → times r xs ≡ 0
  by_case (inl none) = none
  by_case (inr some) =
      let bad : false ≡ true = sym (ap (λ b. not (not b)) (ne_eqb (times r xs) 0 some)) ∙ sym (ap not (waits_where_it_stands d r xs))
      ∙ loose in
      cc
