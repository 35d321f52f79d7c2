-- The request that finishes next is reported by the first of each header whose time has come.
use Rattle.std.proofs.Common.{◌≡◌, ℕ, zero, suc, ◌-◌, ◌<◌, ◌≤◌, Bool, true, false, cond, not, eqb, List, [], ◌∷◌, length, refl, sym, ap, ◌∙◌, arith, inl, inr, Option, Some, None, is_some, ◌⊎◌, ◌||◌, ◌&&◌, ℤ, pos, neg_ℤ, ◌-ℤ◌, int_lt, nat_le, nat_lt, nat_eq, IsSome, filter, find, map, option_map, eq-eqb, ne_eqb, ltb-true, ltb-false, lt-ltb, le-ltb}
use Rattle.std.specs.List.{list_any}
use Rattle.std.proofs.lemmas.{Bool.cond-true, Bool.cases_order, Bool.and_parts, Int.ints}
use Rattle.execlist.specs.{Order.chosen, Order.chosen_or, Order.is_lower, Lists.home, Lists.sequence, Lists.times, Lists.is_at}
use Rattle.execlist.proofs.{OrderLaws.found_in_order, PlainLemmas.home_known, Places.at_home}
use Rattle.timerdev.specs.Timing.{AtClock, AtSystem, Due, Timer, Waiting, due_next, is_due, is_system, moment, next_of, offset, sooner, until_next}
use Rattle.timerdev.specs.Held.{KeepsTimer, begun_in, due_at, due_in, is_before, sooner_of, waiting_for}
use Rattle.timerdev.proofs.{Choice.better, Choice.better_of_two, Choice.chosen_by_other, Choice.is_better, Filters.filter_agrees, Filters.waits_where_it_stands, Homes.Stands, Homes.home_there, Homes.has_home}

-- what is found is found by the same times
pub found_by : {first : Option ℕ} {held dues : List ℕ} (time : ℕ) (queue : List ℕ) → first ≡ find (λ r. nat_le (due_at held r) time) queue → held ≡ dues
    → first ≡ find (λ r. nat_le (due_at dues r) time) queue
found_by time queue is same = is ∙ ap (λ d. find (λ r. nat_le (due_at d r) time) queue) same

-- ---- records and their numbers

filter_map_same : {A : Type 0} (p : A → Bool) (f : ℕ → A) (xs : List ℕ) → filter p (map f xs) ≡ map f (filter (λ x. p (f x)) xs)
filter_map_same p f [] = refl
filter_map_same p f (x ∷ xs) = ap (λ l. cond (p (f x)) (f x ∷ l) l) (filter_map_same p f xs) ∙ by_case (p (f x)) where
  by_case : (b : Bool) → cond b (f x ∷ map f (filter (λ x. p (f x)) xs)) (map f (filter (λ x. p (f x)) xs))
      ≡ map f (cond b (x ∷ filter (λ x. p (f x)) xs) (filter (λ x. p (f x)) xs))
  by_case true = refl
  by_case false = refl

chosen_map : {A : Type 0} (key : A → ℤ) (f : ℕ → A) (xs : List ℕ) → chosen key (map f xs) ≡ option_map f (chosen (λ x. key (f x)) xs)
chosen_map key f [] = refl
chosen_map {A} key f (x ∷ xs) = ap (chosen_or key (f x)) (chosen_map key f xs) ∙ at (chosen (λ x. key (f x)) xs) where
  at : (o : Option ℕ) → chosen_or key (f x) (option_map f o) ≡ option_map f (chosen_or (λ x. key (f x)) x o)
  at None = refl
  at (Some y) = by_case (is_lower key (f x) (f y)) where
    by_case : (b : Bool) → cond b (Some (f y)) (Some (f x)) ≡ option_map f (cond b (Some y) (Some x))
    by_case true = refl
    by_case false = refl

-- the number of what is chosen is what is chosen among the numbers
named : (key : Waiting → ℤ) (p : Waiting → Bool) (d : ℕ → Due) (xs : List ℕ)
    → option_map (λ (w : Waiting). w.request) (chosen key (filter p (waiting_for d xs)))
    ≡ chosen (λ r. key (record { request = r; due = d r })) (filter (λ r. p (record { request = r; due = d r })) xs)
named key p d xs =
    ap (λ l. option_map (λ (w : Waiting). w.request) (chosen key l)) (filter_map_same p (λ r. record { request = r; due = d r }) xs)
    ∙ ap (option_map (λ (w : Waiting). w.request)) (chosen_map key (λ r. record { request = r; due = d r })
    (filter (λ r. p (record { request = r; due = d r })) xs))
    ∙ same (chosen (λ r. key (record { request = r; due = d r })) (filter (λ r. p (record { request = r; due = d r })) xs)) where
      same : (o : Option ℕ) → option_map (λ (w : Waiting). w.request) (option_map (λ r. record { request = r; due = d r }) o) ≡ o
      same None = refl
      same (Some r) = refl

filter_twice : (p q : ℕ → Bool) (xs : List ℕ) → filter p (filter q xs) ≡ filter (λ x. q x && p x) xs
filter_twice p q [] = refl
filter_twice p q (x ∷ xs) = by_case (q x) (filter_twice p q xs) where
  by_case : (b : Bool) → filter p (filter q xs) ≡ filter (λ x. q x && p x) xs
      → filter p (cond b (x ∷ filter q xs) (filter q xs)) ≡ cond (b && p x) (x ∷ filter (λ x. q x && p x) xs) (filter (λ x. q x && p x) xs)
  by_case true ih = ap (λ l. cond (p x) (x ∷ l) l) ih
  by_case false ih = ih

-- ---- keys

shifted : (a b : ℕ) (by : ℤ) → int_lt (neg_ℤ (pos a -ℤ by)) (neg_ℤ (pos b -ℤ by)) ≡ int_lt (neg_ℤ (pos a)) (neg_ℤ (pos b))
shifted a b by = by_case (int_lt (neg_ℤ (pos a)) (neg_ℤ (pos b))) refl where
  by_case : (t : Bool) → int_lt (neg_ℤ (pos a)) (neg_ℤ (pos b)) ≡ t → int_lt (neg_ℤ (pos a -ℤ by)) (neg_ℤ (pos b -ℤ by)) ≡ t
  by_case true e = grind (arith, ints)
  by_case false e = grind (arith, ints)

-- the later of two that are due by now is the one of the sooner due time
of_system_sooner : (a b clock system : ℕ) → a ≤ clock → b ≤ system
    → int_lt (neg_ℤ (pos b -ℤ (pos system -ℤ pos clock))) (neg_ℤ (pos a)) ≡ nat_lt (system - b) (clock - a)
of_system_sooner a b clock system l m = by_case (nat_lt (system - b) (clock - a)) refl where
  by_case : (t : Bool) → nat_lt (system - b) (clock - a) ≡ t → int_lt (neg_ℤ (pos b -ℤ (pos system -ℤ pos clock))) (neg_ℤ (pos a)) ≡ t
  by_case true e = let k = ltb-true (system - b) (clock - a) e in grind (arith, ints)
  by_case false e = let k = ltb-false (system - b) (clock - a) e in grind (arith, ints)

of_clock_sooner : (a b clock system : ℕ) → a ≤ clock → b ≤ system
    → int_lt (neg_ℤ (pos a)) (neg_ℤ (pos b -ℤ (pos system -ℤ pos clock))) ≡ nat_lt (clock - a) (system - b)
of_clock_sooner a b clock system l m = by_case (nat_lt (clock - a) (system - b)) refl where
  by_case : (t : Bool) → nat_lt (clock - a) (system - b) ≡ t → int_lt (neg_ℤ (pos a)) (neg_ℤ (pos b -ℤ (pos system -ℤ pos clock))) ≡ t
  by_case true e = let k = ltb-true (clock - a) (system - b) e in grind (arith, ints)
  by_case false e = let k = ltb-false (clock - a) (system - b) e in grind (arith, ints)

-- the later, or of two as late the one before
later_or_before : (a b : ℕ) (t : Bool) → (nat_lt b a || (not (nat_lt a b) && t)) ≡ (nat_lt b a || (nat_eq b a && t))
later_or_before a b t = by_case (cases_order a b) where
  by_case : (a ≡ b) ⊎ ((a < b) ⊎ (b < a)) → (nat_lt b a || (not (nat_lt a b) && t)) ≡ (nat_lt b a || (nat_eq b a && t))
  by_case (inl same) =
      ap (λ s. nat_lt b a || (s && t)) (ap not (le-ltb a b (omega (arith, same))) ∙ sym (eq-eqb b a (sym same)))
  by_case (inr (inl less)) =
      ap (λ s. nat_lt b a || (s && t)) (ap not (lt-ltb a b less) ∙ sym (ne_eqb b a (λ e. omega (arith, e, less))))
  by_case (inr (inr more)) =
      let e = lt-ltb b a more in
      ap (λ s. s || (not (nat_lt a b) && t)) e ∙ sym (ap (λ s. s || (nat_eq b a && t)) e)

-- ---- the headers

module _ (queues all : List (List ℕ)) (homes begun : List (Option ℕ)) (dues : List ℕ) (held : KeepsTimer queues homes all begun dues)
    (stands : Stands queues homes) where
  -- those of a header that are due by a time
  abbrev pub come_by : (h time : ℕ) → ℕ → Bool
  come_by h time r = is_at (home homes r) h && nat_le (due_at dues r) time

  pub found_is_chosen : (h time : ℕ) → h < 2 → find (λ r. nat_le (due_at dues r) time) (sequence queues h)
      ≡ chosen (sooner_of dues) (filter (come_by h time) (sequence all 0))
  found_is_chosen h time there =
      ap (find (λ r. nat_le (due_at dues r) time)) (held.by_time h there)
      ∙ found_in_order ℕ (sooner_of dues) (λ r. nat_le (due_at dues r) time) (begun_in homes h (sequence all 0))
      ∙ ap (chosen (sooner_of dues)) (filter_twice (λ r. nat_le (due_at dues r) time) (λ r. is_at (home homes r) h) (sequence all 0))

  module _ (timer : Timer) (waits : timer.waiting ≡ waiting_for (due_in homes dues) (sequence all 0)) where
    abbrev pub soon : ℕ → ℤ
    soon r = sooner timer (record { request = r; due = due_in homes dues r })

    next_is_chosen : (p : Waiting → Bool) → next_of p timer ≡ chosen soon
        (filter (λ r. p (record { request = r; due = due_in homes dues r })) (sequence all 0))
    unfolding next_of
    next_is_chosen p =
        ap (λ l. option_map (λ (w : Waiting). w.request) (chosen (sooner timer) (filter p l))) waits
        ∙ named (sooner timer) p (due_in homes dues) (sequence all 0)

    soon_system : (r : ℕ) → is_at (home homes r) 1 ≡ true → soon r ≡ neg_ℤ (moment timer (AtSystem (due_at dues r)))
    soon_system r e = ap (λ (d : Due). neg_ℤ (moment timer d)) (cond-true {A = Due} _ _ _ e)

    soon_clock : (r : ℕ) → is_at (home homes r) 0 ≡ true → soon r ≡ sooner_of dues r
    soon_clock r e = ap (λ o. neg_ℤ (moment timer (cond (is_at o 1) (AtSystem (due_at dues r)) (AtClock (due_at dues r)))))
        (at_home (home homes r) 0 e)

    chosen_of_clock : (time : ℕ) → chosen soon (filter (come_by 0 time) (sequence all 0))
        ≡ chosen (sooner_of dues) (filter (come_by 0 time) (sequence all 0))
    chosen_of_clock time = chosen_by_other soon (sooner_of dues) (come_by 0 time) same (sequence all 0) where
      same : (x y : ℕ) → come_by 0 time x ≡ true → come_by 0 time y ≡ true → is_lower soon x y ≡ is_lower (sooner_of dues) x y
      same x y p q =
          ap (λ k. int_lt k (soon y)) (soon_clock x (and_parts _ _ p).0) ∙ ap (int_lt (sooner_of dues x)) (soon_clock y (and_parts _ _ q).0)

    chosen_of_system : (time : ℕ) → chosen soon (filter (come_by 1 time) (sequence all 0))
        ≡ chosen (sooner_of dues) (filter (come_by 1 time) (sequence all 0))
    chosen_of_system time = chosen_by_other soon (sooner_of dues) (come_by 1 time) same (sequence all 0) where
      same : (x y : ℕ) → come_by 1 time x ≡ true → come_by 1 time y ≡ true → is_lower soon x y ≡ is_lower (sooner_of dues) x y
      same x y p q =
          ap (λ k. int_lt k (soon y)) (soon_system x (and_parts _ _ p).0)
          ∙ ap (int_lt (neg_ℤ (moment timer (AtSystem (due_at dues x))))) (soon_system y (and_parts _ _ q).0)
          ∙ shifted (due_at dues x) (due_at dues y) (offset timer)

    pub until_is_first : until_next timer ≡ find (λ r. nat_le (due_at dues r) timer.system) (sequence queues 1)
    unfolding until_next
    until_is_first =
        next_is_chosen (λ (w : Waiting). is_system w.due && is_due timer w.due)
        ∙ ap (chosen soon) (filter_agrees (come_by 1 timer.system)
        (λ r. is_system (due_in homes dues r) && is_due timer (due_in homes dues r)) (sequence all 0)
        (λ t here. same t (is_at (home homes t) 1)))
        ∙ chosen_of_system timer.system
        ∙ sym (found_is_chosen 1 timer.system (omega arith)) where
          same : (t : ℕ) (b : Bool) → (is_system (cond b (AtSystem (due_at dues t)) (AtClock (due_at dues t))) && is_due timer
              (cond b (AtSystem (due_at dues t)) (AtClock (due_at dues t))))
              ≡ (b && nat_le (due_at dues t) timer.system)
          same t true = refl
          same t false = refl

    pub due_is_better : due_next timer ≡ better soon (sequence all 0)
        (find (λ r. nat_le (due_at dues r) timer.clock) (sequence queues 0))
        (find (λ r. nat_le (due_at dues r) timer.system) (sequence queues 1))
    unfolding due_next
    due_is_better =
        next_is_chosen (λ (w : Waiting). is_due timer w.due)
        ∙ ap (chosen soon) (filter_agrees (λ r. come_by 0 timer.clock r || come_by 1 timer.system r)
        (λ r. is_due timer (due_in homes dues r)) (sequence all 0) same)
        ∙ better_of_two soon (come_by 0 timer.clock) (come_by 1 timer.system) apart (sequence all 0)
        ∙ ap (λ o. better soon (sequence all 0) o (chosen soon (filter (come_by 1 timer.system) (sequence all 0))))
        (chosen_of_clock timer.clock ∙ sym (found_is_chosen 0 timer.clock (omega arith)))
        ∙ ap (better soon (sequence all 0) (find (λ r. nat_le (due_at dues r) timer.clock) (sequence queues 0)))
        (chosen_of_system timer.system ∙ sym (found_is_chosen 1 timer.system (omega arith))) where
          apart : (x : ℕ) → come_by 0 timer.clock x ≡ true → come_by 1 timer.system x ≡ false
          apart x e = ap (λ o. is_at o 1 && nat_le (due_at dues x) timer.system) (at_home (home homes x) 0 (and_parts _ _ e).0)

          or_none : (b : Bool) → b ≡ (b || false)
          or_none true = refl
          or_none false = refl

          same : (t : ℕ) → 1 ≤ times t (sequence all 0) → is_due timer (due_in homes dues t)
              ≡ (come_by 0 timer.clock t || come_by 1 timer.system t)
          same t here = at (home homes t) refl (has_home (home homes t) (times t (sequence all 0)) (held.waits t) here) where
            at : (o : Option ℕ) → home homes t ≡ o → IsSome o → is_due timer
                (cond (is_at o 1) (AtSystem (due_at dues t)) (AtClock (due_at dues t)))
                ≡ ((is_at o 0 && nat_le (due_at dues t) timer.clock) || (is_at o 1 && nat_le (due_at dues t) timer.system))
            at None e some = cc
            at (Some zero) e some = or_none (nat_le (due_at dues t) timer.clock)
            at (Some (suc zero)) e some = refl
            at (Some (suc (suc h))) e some = absurd (omega (arith, held.two_headers, home_there queues homes t (suc (suc h)) stands e))

    pub later_is_better : (a b : ℕ) → home homes a ≡ Some 0 → home homes b ≡ Some 1 → due_at dues a ≤ timer.clock
        → due_at dues b ≤ timer.system
        → is_better soon a b (sequence all 0)
        ≡ (nat_lt (timer.system - due_at dues b) (timer.clock - due_at dues a)
        || (nat_eq (timer.system - due_at dues b) (timer.clock - due_at dues a) && is_before a b (sequence all 0)))
    later_is_better a b own_a own_b come_a come_b =
        let key_a = soon_clock a (ap (λ o. is_at o 0) own_a) in
        let key_b = soon_system b (ap (λ o. is_at o 1) own_b) in
        let lower_b = ap (λ k. int_lt k (soon a)) key_b ∙ ap (int_lt (neg_ℤ (moment timer (AtSystem (due_at dues b))))) key_a
        ∙ of_system_sooner (due_at dues a) (due_at dues b) timer.clock timer.system come_a come_b in
        let lower_a = ap (λ k. int_lt k (soon b)) key_a ∙ ap (int_lt (sooner_of dues a)) key_b
        ∙ of_clock_sooner (due_at dues a) (due_at dues b) timer.clock timer.system come_a come_b in
        ap (λ l. l || (not (is_lower soon a b) && is_before a b (sequence all 0))) lower_b
        ∙ ap (λ l. nat_lt (timer.system - due_at dues b) (timer.clock - due_at dues a) || (not l && is_before a b (sequence all 0))) lower_a
        ∙ later_or_before (timer.clock - due_at dues a) (timer.system - due_at dues b) (is_before a b (sequence all 0))

    module _ (first second : Option ℕ) (of_clock : first ≡ find (λ r. nat_le (due_at dues r) timer.clock) (sequence queues 0))
        (of_system : second ≡ find (λ r. nat_le (due_at dues r) timer.system) (sequence queues 1)) where
      of_firsts : due_next timer ≡ better soon (sequence all 0) first second
      of_firsts =
          due_is_better
          ∙ ap (λ o. better soon (sequence all 0) o (find (λ r. nat_le (due_at dues r) timer.system) (sequence queues 1))) (sym of_clock)
          ∙ ap (better soon (sequence all 0) first) (sym of_system)

      pub due_of_system : first ≡ None → due_next timer ≡ second
      due_of_system none = of_firsts ∙ ap (λ o. better soon (sequence all 0) o second) none

      pub due_of_clock : (a : ℕ) → first ≡ Some a → second ≡ None → due_next timer ≡ Some a
      due_of_clock a one none = of_firsts ∙ ap (λ o. better soon (sequence all 0) o second) one
          ∙ ap (better soon (sequence all 0) (Some a)) none

      pub due_of_both : (a b : ℕ) (t : Bool) → first ≡ Some a → second ≡ Some b → home homes a ≡ Some 0 → home homes b ≡ Some 1
          → due_at dues a ≤ timer.clock → due_at dues b ≤ timer.system
          → t ≡ (nat_lt (timer.system - due_at dues b) (timer.clock - due_at dues a)
          || (nat_eq (timer.system - due_at dues b) (timer.clock - due_at dues a) && is_before a b (sequence all 0)))
          → due_next timer ≡ cond t (Some a) (Some b)
      due_of_both a b t one other own_a own_b come_a come_b tells =
          of_firsts ∙ ap (λ o. better soon (sequence all 0) o second) one ∙ ap (better soon (sequence all 0) (Some a)) other
          ∙ ap (λ k. cond k (Some a) (Some b)) (later_is_better a b own_a own_b come_a come_b ∙ sym tells)

  -- what is in a header waits
  pub home_waits : (r h : ℕ) → home homes r ≡ Some h → list_any (λ (w : Waiting). eqb w.request r)
      (waiting_for (due_in homes dues) (sequence all 0)) ≡ true
  home_waits r h e =
      waits_where_it_stands (due_in homes dues) r (sequence all 0)
      ∙ ap (λ n. not (eqb n 0)) (held.waits r ∙ ap (λ o. cond {A = ℕ} (is_some o) 1 0) e)

  pub home_below : (r h : ℕ) → home homes r ≡ Some h → r < length dues
  home_below r h e = omega (arith, held.each, home_known homes r h e)
