-- Each count is right, and each first way the first.
use Rattle.std.proofs.Common.{◌≡◌, ◌∙◌, ℕ, Bool, true, false, ◌+◌, inl, inr, List, [], ◌∷◌, Option, None, Some, if◌then◌else◌, refl, ap, ap₂, sym, arith, bytes_eq}
use Rattle.std.specs.Option.{option_or}
use Rattle.std.proofs.lemmas.Slice.Eq.{bytes_eq-Decides}
use Rattle.ways.specs.Tables.{Entry, noted, table_of, count_in, first_in, showing, first_showing}
use Rattle.ways.proofs.Merging.{either, noted-hit, noted-miss}

differs : (e x text : List ℕ) → bytes_eq e x ≡ false → bytes_eq e text ≡ true → bytes_eq x text ≡ false
differs e x text other same = elim (either (bytes_eq x text)) as (λ _. bytes_eq x text ≡ false) [
  | inl h ↦
      let apart : true ≡ false = sym ((bytes_eq-Decides e x).1 ((bytes_eq-Decides e text).0 same ∙ sym ((bytes_eq-Decides x text).0 h))) ∙ other in
      absurd cc
  | inr h ↦ h
]

abbrev one : Bool → ℕ
one b = if b then 1 else 0

module _ {W : Type 0} where
  -- one way more is counted if its text is
  count-noted : (t : List (Entry W)) (x text : List ℕ) (way : W) → count_in (noted t x way) text ≡ count_in t text + one (bytes_eq x text)
  count-noted [] x text way = elim (bytes_eq x text) as (λ b. (if b then 1 else 0) ≡ 0 + one b) [ true ↦ omega arith | false ↦ omega arith ]
  count-noted (e ∷ es) x text way = elim (either (bytes_eq e.seen x)) as (λ _. count_in (noted (e ∷ es) x way) text ≡ count_in (e ∷ es) text + one (bytes_eq x text)) [
    | inl h ↦
        ap (λ l. count_in l text) (noted-hit e es x way h)
        ∙ ((elim (bytes_eq e.seen text) as (λ b. (if b then e.count + 1 else count_in es text) ≡ (if b then e.count else count_in es text) + one b) [ true ↦ refl | false ↦ omega arith ])
        ∙ ap (λ s. count_in (e ∷ es) text + one (bytes_eq s text)) ((bytes_eq-Decides e.seen x).0 h))
    | inr h ↦
        ap (λ l. count_in l text) (noted-miss e es x way h)
        ∙ (elim (either (bytes_eq e.seen text)) as (λ _. count_in (e ∷ noted es x way) text ≡ count_in (e ∷ es) text + one (bytes_eq x text)) [
          | inl k ↦
              let none : e.count ≡ e.count + 0 = omega arith in
              ap (λ (b : Bool). if b then e.count else count_in (noted es x way) text) k
              ∙ (none ∙ sym (ap₂ (λ (b c : Bool). (if b then e.count else count_in es text) + one c) k (differs e.seen x text h k)))
          | inr k ↦
              ap (λ (b : Bool). if b then e.count else count_in (noted es x way) text) k
              ∙ (count-noted es x text way ∙ sym (ap (λ (b : Bool). (if b then e.count else count_in es text) + one (bytes_eq x text)) k))
        ])
  ]

  pub count-table : (seen : W → List ℕ) (text : List ℕ) (t : List (Entry W)) (ws : List W) → count_in (table_of seen t ws) text ≡ count_in t text + showing seen text ws
  count-table seen text t [] = omega arith
  count-table seen text t (w ∷ ws) =
      let step : count_in (noted t (seen w) w) text ≡ count_in t text + one (bytes_eq (seen w) text) = count-noted t (seen w) text w in
      let rest : count_in (table_of seen (noted t (seen w) w) ws) text ≡ count_in (noted t (seen w) w) text + showing seen text ws = count-table seen text (noted t (seen w) w) ws in
      omega (arith, step, rest)

  abbrev this : W → Bool → Option W
  this w b = if b then Some w else None

  first-noted : (t : List (Entry W)) (x text : List ℕ) (way : W) → first_in (noted t x way) text ≡ option_or (first_in t text) (this way (bytes_eq x text))
  first-noted [] x text way = refl
  first-noted (e ∷ es) x text way = elim (either (bytes_eq e.seen x)) as (λ _. first_in (noted (e ∷ es) x way) text ≡ option_or (first_in (e ∷ es) text) (this way (bytes_eq x text))) [
    | inl h ↦
        ap (λ l. first_in l text) (noted-hit e es x way h)
        ∙ ((elim (bytes_eq e.seen text) as (λ b. (if b then Some e.first else first_in es text) ≡ option_or (if b then Some e.first else first_in es text) (this way b)) [ true ↦ refl | false ↦ sym (or_none (first_in es text)) ])
        ∙ ap (λ s. option_or (first_in (e ∷ es) text) (this way (bytes_eq s text))) ((bytes_eq-Decides e.seen x).0 h))
    | inr h ↦
        ap (λ l. first_in l text) (noted-miss e es x way h)
        ∙ (elim (either (bytes_eq e.seen text)) as (λ _. first_in (e ∷ noted es x way) text ≡ option_or (first_in (e ∷ es) text) (this way (bytes_eq x text))) [
          | inl k ↦
              ap (λ (b : Bool). if b then Some e.first else first_in (noted es x way) text) k
              ∙ sym (ap (λ (b : Bool). option_or (if b then Some e.first else first_in es text) (this way (bytes_eq x text))) k)
          | inr k ↦
              ap (λ (b : Bool). if b then Some e.first else first_in (noted es x way) text) k
              ∙ (first-noted es x text way ∙ sym (ap (λ (b : Bool). option_or (if b then Some e.first else first_in es text) (this way (bytes_eq x text))) k))
        ])
  ]
    where
      or_none : (o : Option W) → option_or o None ≡ o
      or_none None = refl
      or_none (Some w) = refl

  pub first-table : (seen : W → List ℕ) (text : List ℕ) (t : List (Entry W)) (ws : List W) → first_in (table_of seen t ws) text ≡ option_or (first_in t text) (first_showing seen text ws)
  first-table seen text t [] = sym (or_none (first_in t text))
    where
      or_none : (o : Option W) → option_or o None ≡ o
      or_none None = refl
      or_none (Some w) = refl
  first-table seen text t (w ∷ ws) =
      first-table seen text (noted t (seen w) w) ws
      ∙ (ap (λ o. option_or o (first_showing seen text ws)) (first-noted t (seen w) text w)
      ∙ joins (first_in t text) (bytes_eq (seen w) text))
    where
      joins : (o : Option W) (b : Bool) → option_or (option_or o (this w b)) (first_showing seen text ws) ≡ option_or o (if b then Some w else first_showing seen text ws)
      joins None true = refl
      joins None false = refl
      joins (Some v) b = refl
