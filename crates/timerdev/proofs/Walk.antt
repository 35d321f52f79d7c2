-- A walk along the requests that wait, from the last of them to the first.
use Rattle.std.proofs.Common.{length-append, ◌≡◌, ℕ, suc, ◌+◌, ◌<◌, ◌≤◌, true, false, not, eqb, List, [], ◌∷◌, ◌++◌, length, refl, sym, ap, ◌∙◌, subst, arith, inl, inr, Option, Some, None, ◌⊎◌, eq-eqb, ne_eqb}
use Rattle.std.proofs.lemmas.Bool.{cond-true, cond-false, cases_eq}
use Rattle.execlist.specs.{Order.enqueue, Lists.part_from, Lists.part_before, Lists.part_after, Lists.put_after, Lists.times, Lists.last}
use Rattle.timerdev.specs.Held.{Rises, due_at, is_before, sooner_of}
use Rattle.execlist.proofs.{Walks.Once, Walks.from_before, Walks.from_last, Walks.upto, Walks.upto_before, PlainLemmas.times_later, PlainLemmas.times-append}
use Rattle.timerdev.proofs.{Keeping.is_later, Keeping.is_not_later, Times.stands_here}

-- a list falls into the parts round an item
parts : (m : ℕ) (seq : List ℕ) → 1 ≤ times m seq → part_before m seq ++ m ∷ part_after m seq ≡ seq
parts m [] here = absurd (omega (arith, here))
parts m (x ∷ xs) here = by_case (cases_eq x m) (parts m xs) where
  by_case : (x ≡ m) ⊎ (x ≡ m → ⊥) → (1 ≤ times m xs → part_before m xs ++ m ∷ part_after m xs ≡ xs)
      → part_before m (x ∷ xs) ++ m ∷ part_after m (x ∷ xs) ≡ x ∷ xs
  by_case (inl same) ih =
      let e = eq-eqb x m same in
      ap (λ l. l ++ m ∷ part_after m (x ∷ xs)) (cond-true _ _ _ e) ∙ ap (λ l. m ∷ l) (cond-true _ _ _ e) ∙ ap (λ k. k ∷ xs) (sym same)
  by_case (inr other) ih =
      let e = ne_eqb x m other in
      let rest : 1 ≤ times m xs = omega (arith, here, cond-false (eqb x m) (suc (times m xs)) (times m xs) e) in
      ap (λ l. l ++ m ∷ part_after m (x ∷ xs)) (cond-false _ _ _ e) ∙ ap (λ l. x ∷ (part_before m xs ++ m ∷ l)) (cond-false _ _ _ e)
      ∙ ap (λ l. x ∷ l) (ih rest)

-- ---- the walk

-- what is after the place of the walk is due later
abbrev pub Passed : List ℕ → ℕ → Option ℕ → List ℕ → Type 0
Passed dues due after seq = (t : ℕ) → 1 ≤ times t (part_from after seq) → due < due_at dues t

pub walk_begins : (dues : List ℕ) (due : ℕ) (seq : List ℕ) → Once seq → Passed dues due (last seq) seq
walk_begins dues due seq once t here = absurd (omega (arith, here, ap (times t) (from_last seq once)))

module _ (seq : List ℕ) (m : ℕ) (once : Once seq) (here : 1 ≤ times m seq) where
  before_it : upto (last (part_before m seq)) seq ≡ part_before m seq
  before_it = upto_before m seq once (omega (arith, here))

  pub walk_steps : (dues : List ℕ) (due : ℕ) → due < due_at dues m → Passed dues due (Some m) seq
      → Passed dues due (last (part_before m seq)) seq
  walk_steps dues due late passed t there = by_case (cases_eq m t) where
    by_case : (m ≡ t) ⊎ (m ≡ t → ⊥) → due < due_at dues t
    by_case (inl same) = omega (arith, late, ap (due_at dues) same)
    by_case (inr other) =
        passed t (omega (
          arith,
          there,
          ap (times t) (from_before m seq once (omega (arith, here))),
          cond-false (eqb m t) (suc (times t (part_after m seq)))
              (times t (part_after m seq)) (ne_eqb m t other),
        ))

  pub walk_shorter : length (upto (last (part_before m seq)) seq) < length (upto (Some m) seq)
  walk_shorter = omega (arith, ap length before_it, length-append (part_before m seq) (m ∷ []))

-- ---- the walk back from one request to another

-- what the walk has still to see says whether the other one is before
abbrev pub Tells : (a b : ℕ) → Option ℕ → List ℕ → Type 0
Tells a b next seq = times a (part_before b seq) ≡ times a (upto next seq)

module _ (seq : List ℕ) (m : ℕ) (once : Once seq) (here : 1 ≤ times m seq) where
  pub tells_first : (a : ℕ) → Tells a m (last (part_before m seq)) seq
  tells_first a = ap (times a) (sym (before_it seq m once here))

  pub tells_further : (a b : ℕ) → (m ≡ a → ⊥) → Tells a b (Some m) seq → Tells a b (last (part_before m seq)) seq
  tells_further a b other tells =
      let none : times a (m ∷ []) ≡ 0 = cond-false {A = ℕ} (eqb m a) 1 0 (ne_eqb m a other) in
      omega (arith, tells, times-append a (part_before m seq) (m ∷ []), none, tells_first a)

pub tells_here : (a b m : ℕ) (seq : List ℕ) → m ≡ a → Tells a b (Some m) seq → is_before a b seq ≡ true
tells_here a b m seq same tells =
    ap not (ne_eqb (times a (part_before b seq)) 0 (λ e. omega
    (arith, e, tells, times-append a (part_before m seq) (m ∷ []), stands_here a [], ap (λ k. times a (k ∷ [])) same)))

pub tells_none : (a b : ℕ) (seq : List ℕ) → Tells a b None seq → is_before a b seq ≡ false
tells_none a b seq tells = ap not (eq-eqb (times a (part_before b seq)) 0 tells)

-- ---- the place

module _ (dues : List ℕ) (r : ℕ) where
  passes : (xs ys : List ℕ) → ((t : ℕ) → 1 ≤ times t xs → due_at dues t ≤ due_at dues r)
      → enqueue (sooner_of dues) (xs ++ ys) r ≡ xs ++ enqueue (sooner_of dues) ys r
  passes [] ys early = refl
  passes (x ∷ xs) ys early =
      cond-false _ _ _ (is_not_later (due_at dues r) (due_at dues x) (early x (stands_here x xs)))
      ∙ ap (λ l. x ∷ l) (passes xs ys (λ t here. early t (omega (arith, here, times_later t x xs))))

  goes_first : (xs : List ℕ) → ((t : ℕ) → 1 ≤ times t xs → due_at dues r < due_at dues t) → enqueue (sooner_of dues) xs r ≡ r ∷ xs
  goes_first [] late = refl
  goes_first (x ∷ xs) late = cond-true _ _ _ (is_later (due_at dues r) (due_at dues x) (late x (stands_here x xs)))

  -- if the due times rise, none before an item is due after it
  rises_to : (front : List ℕ) (m : ℕ) (back : List ℕ) → Rises (due_at dues) (front ++ m ∷ back) → (t : ℕ) → 1 ≤ times t front
      → due_at dues t ≤ due_at dues m
  rises_to [] m back rises t here = absurd (omega (arith, here))
  rises_to (x ∷ front) m back rises t here = by_case (cases_eq x t) (rises_to front m back rises.1 t) where
    m_later : 1 ≤ times m (front ++ m ∷ back)
    m_later = omega (arith, times-append m front (m ∷ back), stands_here m back)

    by_case : (x ≡ t) ⊎ (x ≡ t → ⊥) → (1 ≤ times t front → due_at dues t ≤ due_at dues m) → due_at dues t ≤ due_at dues m
    by_case (inl same) ih = omega (arith, rises.0 m m_later, ap (due_at dues) same)
    by_case (inr other) ih =
        ih (omega (arith, here, cond-false (eqb x t) (suc (times t front)) (times t front) (ne_eqb x t other)))

  -- before all that are due later
  pub place_first : (due : ℕ) (seq : List ℕ) → due_at dues r ≡ due → Passed dues due None seq
      → put_after None r seq ≡ enqueue (sooner_of dues) seq r
  place_first due seq e passed = sym (goes_first seq (λ t here. omega (arith, e, passed t here)))

  -- after one that is due by then, and before all that are due later
  pub place_behind : (due : ℕ) (seq : List ℕ) (m : ℕ) → 1 ≤ times m seq → Rises (due_at dues) seq → due_at dues r ≡ due
      → due_at dues m ≤ due → Passed dues due (Some m) seq
      → put_after (Some m) r seq ≡ enqueue (sooner_of dues) seq r
  place_behind due seq m here rises e early passed =
      let whole = parts m seq here in
      let risen = subst (Rises (due_at dues)) (sym whole) rises in
      sym (ap (λ l. enqueue (sooner_of dues) l r) (sym whole)
      ∙ passes (part_before m seq) (m ∷ part_after m seq) (λ t before. omega
      (arith, rises_to (part_before m seq) m (part_after m seq) risen t before, early, e))
      ∙ ap (λ l. part_before m seq ++ l) (cond-false _ _ _ (is_not_later (due_at dues r) (due_at dues m) (omega (arith, early, e)))
      ∙ ap (λ l. m ∷ l) (goes_first (part_after m seq) (λ t there. omega (arith, e, passed t there)))))
