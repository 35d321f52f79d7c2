-- The lists of `exactly` are those that three rules make.
use Rattle.std.proofs.Common.{inl, inr, ◌≡◌, ◌⊎◌, ℕ, zero, suc, List, [], ◌∷◌, ◌++◌, refl, sym, ap, subst}
use Rattle.ways.specs.{Ways.exactly, Ways.with_before, Ways.with_each, Rules.IsOneOf, Rules.IsWay, Rules.ends, Rules.extra, Rules.action}

module _ {E : Type 0} where
  -- ---- an item of two lists, and of a list with something before each

  left : (xs ys : List (List E)) (w : List E) → IsOneOf xs w → IsOneOf (xs ++ ys) w
  left [] ys w none = elim none [ ]
  left (x ∷ xs) ys w (inl e) = inl e
  left (x ∷ xs) ys w (inr there) = inr (left xs ys w there)

  right : (xs ys : List (List E)) (w : List E) → IsOneOf ys w → IsOneOf (xs ++ ys) w
  right [] ys w there = there
  right (x ∷ xs) ys w there = inr (right xs ys w there)

  apart : (xs ys : List (List E)) (w : List E) → IsOneOf (xs ++ ys) w → IsOneOf xs w ⊎ IsOneOf ys w
  apart [] ys w there = inr there
  apart (x ∷ xs) ys w (inl e) = inl (inl e)
  apart (x ∷ xs) ys w (inr there) = elim (apart xs ys w there) [ inl one ↦ inl (inr one) | inr other ↦ inr other ]

  before : (e : E) (ws : List (List E)) (w : List E) → IsOneOf ws w → IsOneOf (with_before e ws) (e ∷ w)
  before e [] w none = elim none [ ]
  before e (x ∷ ws) w (inl same) = inl (ap (λ (l : List E). e ∷ l) same)
  before e (x ∷ ws) w (inr there) = inr (before e ws w there)

  -- what is before each of them, and what follows it
  record IsBefore (e : E) (ws : List (List E)) (w : List E) : Type 0 where
    rest : List E
    is : w ≡ e ∷ rest
    there : IsOneOf ws rest

  behind : (e : E) (ws : List (List E)) (w : List E) → IsOneOf (with_before e ws) w → IsBefore e ws w
  behind e [] w none = elim none [ ]
  behind e (x ∷ ws) w (inl same) = record { rest = x; is = same; there = inl refl }
  behind e (x ∷ ws) w (inr there) =
      let found = behind e ws w there in
      record { rest = found.rest; is = found.is; there = inr found.there }

  each : (kinds : List E) (ws : List (List E)) (kind : E) (w : List E) → IsOneOf kinds kind → IsOneOf ws w → IsOneOf (with_each kinds ws) (kind ∷ w)
  each [] ws kind w none there = elim none [ ]
  each (k ∷ kinds) ws kind w (inl same) there =
      left (with_before k ws) (with_each kinds ws) (kind ∷ w)
      (subst (λ (x : E). IsOneOf (with_before k ws) (x ∷ w)) (sym same) (before k ws w there))
  each (k ∷ kinds) ws kind w (inr other) there =
      right (with_before k ws) (with_each kinds ws) (kind ∷ w) (each kinds ws kind w other there)

  -- a kind, and what follows it
  record HasKind (kinds : List E) (ws : List (List E)) (w : List E) : Type 0 where
    kind : E
    of : IsOneOf kinds kind
    rest : List E
    is : w ≡ kind ∷ rest
    there : IsOneOf ws rest

  each_has : (kinds : List E) (ws : List (List E)) (w : List E) → IsOneOf (with_each kinds ws) w → HasKind kinds ws w
  each_has [] ws w there = elim there [ ]
  each_has (k ∷ kinds) ws w there =
      elim (apart (with_before k ws) (with_each kinds ws) w there) [
        | inl one ↦
            let found = behind k ws w one in
            record { kind = k; of = inl refl; rest = found.rest; is = found.is; there = found.there }
        | inr other ↦
            let found = each_has kinds ws w other in
            record { kind = found.kind; of = inr found.of; rest = found.rest; is = found.is; there = found.there }
      ]

  -- ---- by the rules

  pub listed : (kinds : List E) (j : ℕ) (acts way : List E) → IsWay kinds j acts way → IsOneOf (exactly kinds j acts) way
  listed kinds zero [] [] ends = inl refl
  listed kinds zero [] (kind ∷ way) is = elim is [ ]
  listed kinds zero (a ∷ acts) [] is = elim is [ ]
  listed kinds (suc j) [] [] is = elim is [ ]
  listed kinds (suc j) (a ∷ acts) [] is = elim is [ ]
  listed kinds (suc j) [] (kind ∷ way) (extra _ _ _ _ of is) = each kinds (exactly kinds j []) kind way of (listed kinds j [] way is)
  listed kinds (suc j) (a ∷ acts) (kind ∷ way) (extra _ _ _ _ of is) =
      left (with_each kinds (exactly kinds j (a ∷ acts))) (with_before a (exactly kinds (suc j) acts)) (kind ∷ way)
      (each kinds (exactly kinds j (a ∷ acts)) kind way of (listed kinds j (a ∷ acts) way is))
  listed kinds zero (a ∷ acts) (_ ∷ way) (action _ _ _ _ is) = alone (listed kinds zero acts way is)
    where
      alone : IsOneOf (acts ∷ []) way → IsOneOf ((a ∷ acts) ∷ []) (a ∷ way)
      alone (inl same) = inl (ap (λ (l : List E). a ∷ l) same)
      alone (inr none) = absurd none
  listed kinds (suc j) (a ∷ acts) (_ ∷ way) (action _ _ _ _ is) =
      right (with_each kinds (exactly kinds j (a ∷ acts))) (with_before a (exactly kinds (suc j) acts)) (a ∷ way)
      (before a (exactly kinds (suc j) acts) way (listed kinds (suc j) acts way is))

  pub made : (kinds : List E) (j : ℕ) (acts way : List E) → IsOneOf (exactly kinds j acts) way → IsWay kinds j acts way
  made kinds zero [] way (inl same) = subst (λ (l : List E). IsWay kinds 0 [] l) (sym same) ends
  made kinds zero [] way (inr none) = absurd none
  made kinds zero (a ∷ acts) way (inl same) =
      subst (λ (l : List E). IsWay kinds 0 (a ∷ acts) l) (sym same) (action 0 a acts acts (made kinds zero acts acts (inl refl)))
  made kinds zero (a ∷ acts) way (inr none) = absurd none
  made kinds (suc j) [] way there =
      let found = each_has kinds (exactly kinds j []) way there in
      subst (λ (l : List E). IsWay kinds (suc j) [] l) (sym found.is)
      (extra j [] found.kind found.rest found.of (made kinds j [] found.rest found.there))
  made kinds (suc j) (a ∷ acts) way there =
      elim (apart (with_each kinds (exactly kinds j (a ∷ acts))) (with_before a (exactly kinds (suc j) acts)) way there) [
        | inl one ↦
            let found = each_has kinds (exactly kinds j (a ∷ acts)) way one in
            subst (λ (l : List E). IsWay kinds (suc j) (a ∷ acts) l) (sym found.is)
            (extra j (a ∷ acts) found.kind found.rest found.of (made kinds j (a ∷ acts) found.rest found.there))
        | inr other ↦
            let found = behind a (exactly kinds (suc j) acts) way other in
            subst (λ (l : List E). IsWay kinds (suc j) (a ∷ acts) l) (sym found.is)
            (action (suc j) a acts found.rest (made kinds (suc j) acts found.rest found.there))
      ]
