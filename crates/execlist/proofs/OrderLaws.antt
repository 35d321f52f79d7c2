-- The laws of `order` and `chosen`.
use Rattle.std.proofs.Common.{◌≡◌, ℕ, zero, suc, ◌<◌, Bool, true, false, cond, not, eqb, List, [], ◌∷◌, length, get_or, refl, sym, ◌∙◌, ap, arith, Option, Some, None, MatchOption, All, ℤ, ◌≤ℤ◌, ◌<ℤ◌, int_lt, filter, fold, slice_index_or, find, eq-eqb}
use Rattle.std.specs.List.{AllByRecursion}
use Rattle.std.proofs.lemmas.{Grind.fold-append, List.Elements.filter_passes, List.Elements.All-head, List.Elements.All-tail, Bool.both_ways, Bool.not-true, Bool.cond-true, Bool.cond-false, Int.ints}
use Rattle.execlist.specs.Order.{OrderTakesArrival, is_lower, enqueue, order, first, chosen, chosen_or, IsEarliestGreatest, OrderLeavesOut, FirstOfOrderIsChosen, ChosenIsEarliestGreatest, OrderReadsMembersKeys, FoundInOrderIsChosen, without_item, OrderRekeyed}

lt_trans : (a b c : ℤ) → int_lt a b ≡ true → int_lt b c ≡ true → int_lt a c ≡ true
lt_trans a b c p q = grind (arith, ints)

le_lt : (a b c : ℤ) → int_lt a b ≡ false → int_lt a c ≡ true → int_lt b c ≡ true
le_lt a b c p q = grind (arith, ints)

pub le_trans : (a b c : ℤ) → int_lt a b ≡ false → int_lt b c ≡ false → int_lt a c ≡ false
le_trans a b c p q = grind (arith, ints)

pub lt_le : (a b : ℤ) → int_lt a b ≡ true → int_lt b a ≡ false
lt_le a b p = grind (arith, ints)

lt_from : (a b : ℤ) → int_lt a b ≡ true → a <ℤ b
lt_from a b p = grind (arith, ints)

le_from : (a b : ℤ) → int_lt a b ≡ false → b ≤ℤ a
le_from a b p = grind (arith, ints)

le_le : (a b c : ℤ) → a ≤ℤ b → b ≤ℤ c → a ≤ℤ c
le_le a b c p q = omega (arith, ints)

pub not_self : (a : ℤ) → int_lt a a ≡ false
not_self a = grind (arith, ints)

le_self : (a : ℤ) → a ≤ℤ a
le_self a = omega (arith, ints)

-- The first of `order` is the chosen one.

module _ {A : Type 0} (key : A → ℤ) where
  keeps_later : (x y : A) (o : Option A) → is_lower key y x ≡ true → chosen_or key x o ≡ chosen_or key y (chosen_or key x o)
  keeps_later x y None e = sym (cond-true _ _ _ e)
  keeps_later x y (Some z) e = by_case (is_lower key x z) refl where
    by_case : (b : Bool) → is_lower key x z ≡ b → cond b (Some z) (Some x) ≡ chosen_or key y (cond b (Some z) (Some x))
    by_case true l = sym (cond-true _ _ _ (lt_trans (key y) (key x) (key z) e l))
    by_case false l = sym (cond-true _ _ _ e)

  keeps_earlier : (x y : A) (o : Option A) → is_lower key y x ≡ false → chosen_or key y o ≡ chosen_or key y (chosen_or key x o)
  keeps_earlier x y None e = sym (cond-false _ _ _ e)
  keeps_earlier x y (Some z) e = by_case (is_lower key x z) refl where
    by_case : (b : Bool) → is_lower key x z ≡ b → chosen_or key y (Some z) ≡ chosen_or key y (cond b (Some z) (Some x))
    by_case true l = refl
    by_case false l = cond-false _ _ _ (le_trans (key y) (key x) (key z) e l) ∙ sym (cond-false _ _ _ e)

  first_after : (y : A) (s xs : List A) → first (fold (enqueue key) (y ∷ s) xs) ≡ chosen_or key y (chosen key xs)
  first_after y s [] = refl
  first_after y s (x ∷ xs) =
      by_case (is_lower key y x) refl (first_after x (y ∷ s) xs) (first_after y (enqueue key s x) xs) where
        by_case : (b : Bool) → is_lower key y x ≡ b → first (fold (enqueue key) (x ∷ y ∷ s) xs) ≡ chosen_or key x (chosen key xs) → first (fold (enqueue key) (y ∷ enqueue key s x) xs) ≡ chosen_or key y (chosen key xs) → first (fold (enqueue key) (cond b (x ∷ y ∷ s) (y ∷ enqueue key s x)) xs) ≡ chosen_or key y (chosen_or key x (chosen key xs))
        by_case true e p q = p ∙ keeps_later x y (chosen key xs) e
        by_case false e p q = q ∙ keeps_earlier x y (chosen key xs) e

  first_is_chosen : (xs : List A) → first (order key xs) ≡ chosen key xs
  unfolding order
  first_is_chosen [] = refl
  first_is_chosen (x ∷ xs) = first_after x [] xs

  -- Leaving out items and ordering.

  -- no item of the list is of greater key than x
  abbrev NoneAbove : A → List A → Type 0
  NoneAbove x = AllByRecursion (λ y. is_lower key x y ≡ false)

  -- the keys fall
  abbrev Falls : List A → Type 0
  Falls [] = Unit {0}
  Falls (x ∷ xs) = NoneAbove x xs × Falls xs

  none_above_enqueue : (w x : A) (s : List A) → is_lower key w x ≡ false → NoneAbove w s → NoneAbove w (enqueue key s x)
  none_above_enqueue w x [] e h = (e, tt)
  none_above_enqueue w x (y ∷ ys) e h = by_case (is_lower key y x) (none_above_enqueue w x ys e h.1) where
    by_case : (b : Bool) → NoneAbove w (enqueue key ys x) → NoneAbove w (cond b (x ∷ y ∷ ys) (y ∷ enqueue key ys x))
    by_case true ih = (e, h)
    by_case false ih = (h.0, ih)

  none_above_lower : (x y : A) (s : List A) → is_lower key y x ≡ true → NoneAbove y s → NoneAbove x s
  none_above_lower x y [] e h = tt
  none_above_lower x y (z ∷ zs) e h =
      (lt_le (key z) (key x) (le_lt (key y) (key z) (key x) h.0 e), none_above_lower x y zs e h.1)

  falls_enqueue : (x : A) (s : List A) → Falls s → Falls (enqueue key s x)
  falls_enqueue x [] h = (tt, tt)
  falls_enqueue x (y ∷ ys) h = by_case (is_lower key y x) refl (falls_enqueue x ys h.1) where
    by_case : (b : Bool) → is_lower key y x ≡ b → Falls (enqueue key ys x) → Falls (cond b (x ∷ y ∷ ys) (y ∷ enqueue key ys x))
    by_case true e ih = ((lt_le (key y) (key x) e, none_above_lower x y ys e h.0), h)
    by_case false e ih = (none_above_enqueue y x ys e h.0, ih)

  -- x goes in front of what is lower
  enqueue_front : (keep : A → Bool) (x y : A) (s : List A) → is_lower key y x ≡ true → NoneAbove y s → enqueue key (filter keep s) x ≡ x ∷ filter keep s
  enqueue_front keep x y [] e h = refl
  enqueue_front keep x y (z ∷ zs) e h = by_case (keep z) (enqueue_front keep x y zs e h.1) where
    by_case : (b : Bool) → enqueue key (filter keep zs) x ≡ x ∷ filter keep zs → enqueue key (cond b (z ∷ filter keep zs) (filter keep zs)) x ≡ x ∷ cond b (z ∷ filter keep zs) (filter keep zs)
    by_case true ih = cond-true _ _ _ (le_lt (key y) (key z) (key x) h.0 e)
    by_case false ih = ih

  filter_enqueue : (keep : A → Bool) (x : A) (s : List A) → Falls s → filter keep (enqueue key s x) ≡ cond (keep x) (enqueue key (filter keep s) x) (filter keep s)
  filter_enqueue keep x [] h = refl
  filter_enqueue keep x (y ∷ ys) h = by_case (is_lower key y x) refl (filter_enqueue keep x ys h.1) where
    front : is_lower key y x ≡ true → enqueue key (filter keep (y ∷ ys)) x ≡ x ∷ filter keep (y ∷ ys)
    front e = enqueue_front keep x y (y ∷ ys) e (not_self (key y), h.0)

    behind : (k n : Bool) → is_lower key y x ≡ false → filter keep (enqueue key ys x) ≡ cond n (enqueue key (filter keep ys) x) (filter keep ys) → cond k (y ∷ filter keep (enqueue key ys x)) (filter keep (enqueue key ys x)) ≡ cond n (enqueue key (cond k (y ∷ filter keep ys) (filter keep ys)) x) (cond k (y ∷ filter keep ys) (filter keep ys))
    behind true true e ih = ap (λ l. y ∷ l) ih ∙ sym (cond-false _ _ _ e)
    behind true false e ih = ap (λ l. y ∷ l) ih
    behind false true e ih = ih
    behind false false e ih = ih

    by_case : (b : Bool) → is_lower key y x ≡ b → filter keep (enqueue key ys x) ≡ cond (keep x) (enqueue key (filter keep ys) x) (filter keep ys) → filter keep (cond b (x ∷ y ∷ ys) (y ∷ enqueue key ys x)) ≡ cond (keep x) (enqueue key (filter keep (y ∷ ys)) x) (filter keep (y ∷ ys))
    by_case true e ih = ap (λ l. cond (keep x) l (filter keep (y ∷ ys))) (sym (front e))
    by_case false e ih = behind (keep y) (keep x) e ih

  leaves_out_from : (keep : A → Bool) (s xs : List A) → Falls s → fold (enqueue key) (filter keep s) (filter keep xs) ≡ filter keep (fold (enqueue key) s xs)
  leaves_out_from keep s [] h = refl
  leaves_out_from keep s (x ∷ xs) h =
      by_case (keep x) (filter_enqueue keep x s h) ∙ leaves_out_from keep (enqueue key s x) xs (falls_enqueue x s h) where
        by_case : (b : Bool) → filter keep (enqueue key s x) ≡ cond b (enqueue key (filter keep s) x) (filter keep s) → fold (enqueue key) (filter keep s) (cond b (x ∷ filter keep xs) (filter keep xs)) ≡ fold (enqueue key) (filter keep (enqueue key s x)) (filter keep xs)
        by_case true e = ap (λ l. fold (enqueue key) l (filter keep xs)) (sym e)
        by_case false e = ap (λ l. fold (enqueue key) l (filter keep xs)) (sym e)

  leaves_out : (keep : A → Bool) (xs : List A) → order key (filter keep xs) ≡ filter keep (order key xs)
  unfolding order
  leaves_out keep xs = leaves_out_from keep [] xs tt

  -- The chosen one is the earliest among those of greatest key.

  chosen_step : (x : A) (xs : List A) (o : Option A) → MatchOption o (xs ≡ []) (IsEarliestGreatest key xs) → MatchOption (chosen_or key x o) (x ∷ xs ≡ []) (IsEarliestGreatest key (x ∷ xs))
  chosen_step x xs None h = rw h (record {
    place = 0;
    within = omega arith;
    there = λ d. refl;
    greatest = at;
    earliest = λ k d l. absurd (omega arith);
  }) where
    at : (k : ℕ) (d : A) → k < 1 → key (slice_index_or (x ∷ []) k d) ≤ℤ key x
    at zero d l = le_self (key x)
    at (suc k) d l = absurd (omega arith)
  chosen_step x xs (Some z) h = by_case (is_lower key x z) refl where
    up : (e : is_lower key x z ≡ true) (k : ℕ) (d : A) → k < length (x ∷ xs) → key (slice_index_or (x ∷ xs) k d) ≤ℤ key z
    up e zero d l = le_from (key z) (key x) (lt_le (key x) (key z) e)
    up e (suc k) d l = h.greatest k d (omega arith)

    before : (e : is_lower key x z ≡ true) (k : ℕ) (d : A) → k < suc h.place → key (slice_index_or (x ∷ xs) k d) <ℤ key z
    before e zero d l = lt_from (key x) (key z) e
    before e (suc k) d l = h.earliest k d (omega arith)

    own : (e : is_lower key x z ≡ false) (k : ℕ) (d : A) → k < length (x ∷ xs) → key (slice_index_or (x ∷ xs) k d) ≤ℤ key x
    own e zero d l = le_self (key x)
    own e (suc k) d l = le_le (key (slice_index_or xs k d)) (key z) (key x) (h.greatest k d (omega arith)) (le_from (key x) (key z) e)

    by_case : (b : Bool) → is_lower key x z ≡ b → MatchOption (cond b (Some z) (Some x)) (x ∷ xs ≡ []) (IsEarliestGreatest key (x ∷ xs))
    by_case true e = record { place = suc h.place; within = omega (arith, h.within); there = h.there; greatest = up e; earliest = before e }
    by_case false e = record { place = 0; within = omega arith; there = λ d. refl; greatest = own e; earliest = λ k d l. absurd (omega arith) }

  chosen_is : (xs : List A) → MatchOption (chosen key xs) (xs ≡ []) (IsEarliestGreatest key xs)
  chosen_is [] = refl
  chosen_is (x ∷ xs) = chosen_step x xs (chosen key xs) (chosen_is xs)

-- The order rests on the keys of the items alone.

module _ {A : Type 0} (key other : A → ℤ) where
  abbrev Agree : List A → Type 0
  Agree = AllByRecursion (λ x. other x ≡ key x)

  enqueue_same : (x : A) (s : List A) → other x ≡ key x → Agree s → enqueue other s x ≡ enqueue key s x
  enqueue_same x [] e h = refl
  enqueue_same x (y ∷ ys) e h =
      ap (λ b. cond b (x ∷ y ∷ ys) (y ∷ enqueue other ys x)) (rw (e, h.0))
      ∙ ap (λ l. cond (is_lower key y x) (x ∷ y ∷ ys) (y ∷ l)) (enqueue_same x ys e h.1)

  agree_enqueue : (x : A) (s : List A) → other x ≡ key x → Agree s → Agree (enqueue key s x)
  agree_enqueue x [] e h = (e, tt)
  agree_enqueue x (y ∷ ys) e h = by_case (is_lower key y x) (agree_enqueue x ys e h.1) where
    by_case : (b : Bool) → Agree (enqueue key ys x) → Agree (cond b (x ∷ y ∷ ys) (y ∷ enqueue key ys x))
    by_case true ih = (e, h)
    by_case false ih = (h.0, ih)

  same_from : (s xs : List A) → Agree s → All (λ x. other x ≡ key x) xs → fold (enqueue other) s xs ≡ fold (enqueue key) s xs
  same_from s [] h p = refl
  same_from s (x ∷ xs) h p =
      let e = All-head (λ x. other x ≡ key x) x xs p in
      ap (λ l. fold (enqueue other) l xs) (enqueue_same x s e h)
      ∙ (same_from (enqueue key s x) xs (agree_enqueue x s e h) (All-tail (λ x. other x ≡ key x) x xs p))

pub order_takes : (A : Type 0) → OrderTakesArrival A
unfolding order
order_takes A = λ key xs x. fold-append (enqueue key) [] xs (x ∷ [])

pub order_leaves_out : (A : Type 0) → OrderLeavesOut A
order_leaves_out A = λ key keep xs. leaves_out key keep xs

pub first_of_order : (A : Type 0) → FirstOfOrderIsChosen A
first_of_order A = λ key xs. first_is_chosen key xs

pub chosen_is_earliest : (A : Type 0) → ChosenIsEarliestGreatest A
chosen_is_earliest A = λ key xs. chosen_is key xs

pub order_reads_keys : (A : Type 0) → OrderReadsMembersKeys A
unfolding order
order_reads_keys A = λ key other xs h. same_from key other [] xs tt h

pub order_rekeyed : OrderRekeyed
order_rekeyed key other n xs same =
    let w = without_item n xs in
    let agree : All (λ x. other x ≡ key x) w = λ k d l. same (get_or w k d) (λ e. both_ways (eqb (get_or w k d) n) (not-true (eqb (get_or w k d) n) (filter_passes (λ x. not (eqb x n)) xs k d l)) (eq-eqb (get_or w k d) n e)) in
    order_takes ℕ other w n
    ∙ ap (λ l. enqueue other l n) (order_reads_keys ℕ key other w agree ∙ order_leaves_out ℕ key (λ x. not (eqb x n)) xs)

find_first : {A : Type 0} (p : A → Bool) (xs : List A) → find p xs ≡ first (filter p xs)
find_first p [] = refl
find_first p (x ∷ xs) = by_case (p x) (find_first p xs) where
  by_case : (b : Bool) → find p xs ≡ first (filter p xs) → cond b (Some x) (find p xs) ≡ first (cond b (x ∷ filter p xs) (filter p xs))
  by_case true ih = refl
  by_case false ih = ih

pub found_in_order : (A : Type 0) → FoundInOrderIsChosen A
found_in_order A = λ key wanted xs. find_first wanted (order key xs) ∙ ap first (sym (order_leaves_out A key wanted xs))
    ∙ first_of_order A key (filter wanted xs)
