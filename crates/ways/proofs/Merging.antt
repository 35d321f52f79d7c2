-- The tables of two parts, and that of both.
use Rattle.std.proofs.Common.{◌≡◌, ◌∙◌, ℕ, Bool, true, false, ◌+◌, ◌⊎◌, inl, inr, List, [], ◌∷◌, ◌++◌, if◌then◌else◌, refl, ap, sym, arith, bytes_eq}
use Rattle.std.proofs.lemmas.Slice.Eq.{bytes_eq-Decides}
use Rattle.ways.specs.Tables.{Entry, noted, table_of, added, merged}
use Rattle.ways.proofs.Tables.{table-append}

pub either : (b : Bool) → (b ≡ true) ⊎ (b ≡ false)
either true = inl refl
either false = inr refl

module _ {W : Type 0} where
  abbrev pub more : Entry W → Entry W
  more e = record { seen = e.seen; count = e.count + 1; first = e.first }

  abbrev both : Entry W → Entry W → Entry W
  both x e = record { seen = x.seen; count = x.count + e.count; first = x.first }

  -- a text is in a table
  abbrev has : List (Entry W) → List ℕ → Bool
  has [] text = false
  has (e ∷ es) text = if bytes_eq e.seen text then true else has es text

  pub noted-hit : (e : Entry W) (es : List (Entry W)) (text : List ℕ) (way : W) → bytes_eq e.seen text ≡ true → noted (e ∷ es) text way ≡ more e ∷ es
  noted-hit e es text way h = ap (λ (b : Bool). if b then more e ∷ es else e ∷ noted es text way) h

  pub noted-miss : (e : Entry W) (es : List (Entry W)) (text : List ℕ) (way : W) → bytes_eq e.seen text ≡ false → noted (e ∷ es) text way ≡ e ∷ noted es text way
  noted-miss e es text way h = ap (λ (b : Bool). if b then more e ∷ es else e ∷ noted es text way) h

  added-hit : (x : Entry W) (xs : List (Entry W)) (e : Entry W) → bytes_eq x.seen e.seen ≡ true → added (x ∷ xs) e ≡ both x e ∷ xs
  added-hit x xs e h = ap (λ (b : Bool). if b then both x e ∷ xs else x ∷ added xs e) h

  added-miss : (x : Entry W) (xs : List (Entry W)) (e : Entry W) → bytes_eq x.seen e.seen ≡ false → added (x ∷ xs) e ≡ x ∷ added xs e
  added-miss x xs e h = ap (λ (b : Bool). if b then both x e ∷ xs else x ∷ added xs e) h

  has-hit : (e : Entry W) (es : List (Entry W)) (text : List ℕ) → bytes_eq e.seen text ≡ true → has (e ∷ es) text ≡ true
  has-hit e es text h = ap (λ (b : Bool). if b then true else has es text) h

  has-miss : (e : Entry W) (es : List (Entry W)) (text : List ℕ) → bytes_eq e.seen text ≡ false → has (e ∷ es) text ≡ has es text
  has-miss e es text h = ap (λ (b : Bool). if b then true else has es text) h

  -- one way is a table of its own
  noted-added : (t : List (Entry W)) (text : List ℕ) (way : W) → noted t text way ≡ added t (record { seen = text; count = 1; first = way })
  noted-added [] text way = refl
  noted-added (e ∷ es) text way = ap (λ r. if bytes_eq e.seen text then more e ∷ es else e ∷ r) (noted-added es text way)

  -- one way more of an entry, before it is added or after
  more-added : (t : List (Entry W)) (x : Entry W) (way : W) → added t (more x) ≡ noted (added t x) x.seen way
  more-added [] x way = sym (noted-hit x [] x.seen way ((bytes_eq-Decides x.seen x.seen).1 refl))
  more-added (z ∷ zs) x way = elim (either (bytes_eq z.seen x.seen)) as (λ _. added (z ∷ zs) (more x) ≡ noted (added (z ∷ zs) x) x.seen way) [
    | inl h ↦ let counts : z.count + (x.count + 1) ≡ z.count + x.count + 1 = omega arith in
        added-hit z zs (more x) h ∙ (ap (λ (n : ℕ). record { seen = z.seen; count = n; first = z.first } ∷ zs) counts
        ∙ (sym (noted-hit (both z x) zs x.seen way h) ∙ ap (λ l. noted l x.seen way) (sym (added-hit z zs x h))))
    | inr h ↦ added-miss z zs (more x) h ∙ (ap (λ l. z ∷ l) (more-added zs x way)
        ∙ (sym (noted-miss z (added zs x) x.seen way h) ∙ ap (λ l. noted l x.seen way) (sym (added-miss z zs x h))))
  ]

  has-added_itself : (t : List (Entry W)) (x : Entry W) → has (added t x) x.seen ≡ true
  has-added_itself [] x = has-hit x [] x.seen ((bytes_eq-Decides x.seen x.seen).1 refl)
  has-added_itself (z ∷ zs) x = elim (either (bytes_eq z.seen x.seen)) as (λ _. has (added (z ∷ zs) x) x.seen ≡ true) [
    | inl h ↦ ap (λ l. has l x.seen) (added-hit z zs x h) ∙ has-hit (both z x) zs x.seen h
    | inr h ↦ ap (λ l. has l x.seen) (added-miss z zs x h) ∙ (has-miss z (added zs x) x.seen h ∙ has-added_itself zs x)
  ]

  has-added : (t : List (Entry W)) (y : Entry W) (text : List ℕ) → has t text ≡ true → has (added t y) text ≡ true
  has-added [] y text there = absurd cc
  has-added (z ∷ zs) y text there = elim (either (bytes_eq z.seen y.seen)) as (λ _. has (added (z ∷ zs) y) text ≡ true) [
    | inl h ↦ ap (λ l. has l text) (added-hit z zs y h) ∙ there
    | inr h ↦ ap (λ l. has l text) (added-miss z zs y h) ∙ (elim (either (bytes_eq z.seen text)) as (λ _. has (z ∷ added zs y) text ≡ true) [
      | inl k ↦ has-hit z (added zs y) text k
      | inr k ↦ has-miss z (added zs y) text k ∙ has-added zs y text (sym (has-miss z zs text k) ∙ there)
    ])
  ]

  -- a way of a text that is in a table, before another entry is added or after
  noted-then_added : (t : List (Entry W)) (y : Entry W) (text : List ℕ) (way : W) → has t text ≡ true → added (noted t text way) y ≡ noted (added t y) text way
  noted-then_added [] y text way there = absurd cc
  noted-then_added (z ∷ zs) y text way there =
      elim (either (bytes_eq z.seen text)) as (λ _. added (noted (z ∷ zs) text way) y ≡ noted (added (z ∷ zs) y) text way) [
        | inl k ↦ ap (λ l. added l y) (noted-hit z zs text way k) ∙ (elim (either (bytes_eq z.seen y.seen)) as (λ _. added (more z ∷ zs) y ≡ noted (added (z ∷ zs) y) text way) [
          | inl h ↦ let counts : z.count + 1 + y.count ≡ z.count + y.count + 1 = omega arith in
              added-hit (more z) zs y h ∙ (ap (λ (n : ℕ). record { seen = z.seen; count = n; first = z.first } ∷ zs) counts
              ∙ (sym (noted-hit (both z y) zs text way k) ∙ ap (λ l. noted l text way) (sym (added-hit z zs y h))))
          | inr h ↦ added-miss (more z) zs y h ∙ (sym (noted-hit z (added zs y) text way k) ∙ ap (λ l. noted l text way) (sym (added-miss z zs y h)))
        ])
        | inr k ↦ ap (λ l. added l y) (noted-miss z zs text way k) ∙ (elim (either (bytes_eq z.seen y.seen)) as (λ _. added (z ∷ noted zs text way) y ≡ noted (added (z ∷ zs) y) text way) [
          | inl h ↦ added-hit z (noted zs text way) y h ∙ (sym (noted-miss (both z y) zs text way k) ∙ ap (λ l. noted l text way) (sym (added-hit z zs y h)))
          | inr h ↦ added-miss z (noted zs text way) y h ∙ (ap (λ l. z ∷ l) (noted-then_added zs y text way (sym (has-miss z zs text k) ∙ there))
              ∙ (sym (noted-miss z (added zs y) text way k) ∙ ap (λ l. noted l text way) (sym (added-miss z zs y h))))
        ])
      ]

  noted-then_merged : (t u : List (Entry W)) (text : List ℕ) (way : W) → has t text ≡ true → merged (noted t text way) u ≡ noted (merged t u) text way
  noted-then_merged t [] text way there = refl
  noted-then_merged t (y ∷ ys) text way there =
      ap (λ l. merged l ys) (noted-then_added t y text way there) ∙ noted-then_merged (added t y) ys text way (has-added t y text there)

  -- one way more of the later part
  merged-noted : (t u : List (Entry W)) (text : List ℕ) (way : W) → merged t (noted u text way) ≡ noted (merged t u) text way
  merged-noted t [] text way = sym (noted-added t text way)
  merged-noted t (x ∷ xs) text way = elim (either (bytes_eq x.seen text)) as (λ _. merged t (noted (x ∷ xs) text way) ≡ noted (merged (added t x) xs) text way) [
    | inl h ↦ let same : x.seen ≡ text = (bytes_eq-Decides x.seen text).0 h in
        ap (merged t) (noted-hit x xs text way h)
        ∙ (ap (λ l. merged l xs) (more-added t x way)
        ∙ (noted-then_merged (added t x) xs x.seen way (has-added_itself t x)
        ∙ ap (λ s. noted (merged (added t x) xs) s way) same))
    | inr h ↦ ap (merged t) (noted-miss x xs text way h) ∙ merged-noted (added t x) xs text way
  ]

  -- the table of both parts is the two tables merged
  pub merged-table : (seen : W → List ℕ) (t u : List (Entry W)) (ws : List W) → merged t (table_of seen u ws) ≡ table_of seen (merged t u) ws
  merged-table seen t u [] = refl
  merged-table seen t u (w ∷ ws) = merged-table seen t (noted u (seen w) w) ws ∙ ap (λ l. table_of seen l ws) (merged-noted t u (seen w) w)

  pub sum_of_parts : (seen : W → List ℕ) (xs ys : List W) → table_of seen [] (xs ++ ys) ≡ merged (table_of seen [] xs) (table_of seen [] ys)
  sum_of_parts seen xs ys = table-append seen [] xs ys ∙ sym (merged-table seen (table_of seen [] xs) [] ys)
