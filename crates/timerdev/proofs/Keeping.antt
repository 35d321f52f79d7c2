-- What the code keeps of the requests that wait, if one more comes or one goes.
use Rattle.std.proofs.Common.{◌≡◌, ℕ, suc, ◌<◌, ◌≤◌, Bool, true, false, cond, eqb, List, [], ◌∷◌, slice_set, refl, ap, ◌∙◌, arith, inl, inr, Some, None, ◌+◌, not, ◌++◌, length, sym, subst, Option, IfSome, is_some, slice_index_or, ◌⊎◌, ℤ, pos, neg_ℤ, int_lt, nat_le, find, fold, filter, IsSome, replicate, eq-eqb, ne_eqb, get_or-set_other, get_or-set_same, length-set, append-nil}
use Rattle.std.proofs.lemmas.{Bool.cond-false, Bool.cond-true, Bool.cases_eq, Bool.cases_lt, Int.ints, List.get_or-replicate, List.length-replicate, List.get_or_past}
use Rattle.execlist.specs.{Order.enqueue, Order.first, Order.is_lower, Order.order, Order.without_item, Lists.times, Lists.home, Lists.sequence, Lists.is_at}
use Rattle.execlist.proofs.{OrderLaws.order_reads_keys, OrderLaws.order_takes, OrderLaws.order_leaves_out, PlainLemmas.times_later, PlainLemmas.times-append, PlainLemmas.without_fresh, PlainLemmas.times_without, PlainLemmas.times_without_other}
use Rattle.timerdev.specs.{Held.Rises, Held.NoneBefore, Held.due_at, Held.sooner_of, Held.Held, Held.KeepsTimer, Held.begun_in, Held.due_for, Held.due_in, Held.on_timer, Held.waiting_for, Timing.AtClock, Timing.AtSystem, Timing.Due, Timing.Timer, Timing.Waiting}
use Rattle.timerdev.proofs.{Times.is_front, Times.stands_here, Times.times_filter, Filters.all_that_stand, Filters.filter_joined, Filters.filter_left, Filters.waiting_joined, Filters.waiting_left, Homes.Stands, Homes.home_there}

-- ---- the requests of a header are by their times, and the first of them is due if any is

-- ---- due times

-- the key of a later time is lower
later : (a b : ℕ) → int_lt (neg_ℤ (pos b)) (neg_ℤ (pos a)) ≡ true → a < b
later a b l = grind (arith, ints)

not_later : (a b : ℕ) → int_lt (neg_ℤ (pos b)) (neg_ℤ (pos a)) ≡ false → b ≤ a
not_later a b l = grind (arith, ints)

pub is_later : (a b : ℕ) → a < b → int_lt (neg_ℤ (pos b)) (neg_ℤ (pos a)) ≡ true
is_later a b l = grind (arith, ints)

pub is_not_later : (a b : ℕ) → b ≤ a → int_lt (neg_ℤ (pos b)) (neg_ℤ (pos a)) ≡ false
is_not_later a b l = grind (arith, ints)

-- ---- rising

times-enqueue : (key : ℕ → ℤ) (t r : ℕ) (xs : List ℕ) → times t (enqueue key xs r) ≡ times t (r ∷ xs)
times-enqueue key t r [] = refl
times-enqueue key t r (x ∷ xs) = by_case (is_lower key x r) (times-enqueue key t r xs) where
  behind : (a b : Bool) → times t (enqueue key xs r) ≡ cond b (suc (times t xs)) (times t xs)
      → cond a (suc (times t (enqueue key xs r))) (times t (enqueue key xs r))
      ≡ cond b (suc (cond a (suc (times t xs)) (times t xs))) (cond a (suc (times t xs)) (times t xs))
  behind true true e = ap suc e
  behind true false e = ap suc e
  behind false true e = e
  behind false false e = e

  by_case : (b : Bool) → times t (enqueue key xs r) ≡ times t (r ∷ xs)
      → times t (cond b (r ∷ x ∷ xs) (x ∷ enqueue key xs r)) ≡ times t (r ∷ x ∷ xs)
  by_case true e = refl
  by_case false e = behind (eqb x t) (eqb r t) e

rises_enqueue : (dues : List ℕ) (r : ℕ) (xs : List ℕ) → Rises (due_at dues) xs → Rises (due_at dues) (enqueue (sooner_of dues) xs r)
rises_enqueue dues r [] rises = ((λ t here. absurd (omega (arith, here))), tt)
rises_enqueue dues r (x ∷ xs) rises = by_case (is_lower (sooner_of dues) x r) refl (rises_enqueue dues r xs rises.1) where
  by_case : (b : Bool) → is_lower (sooner_of dues) x r ≡ b → Rises (due_at dues) (enqueue (sooner_of dues) xs r)
      → Rises (due_at dues) (cond b (r ∷ x ∷ xs) (x ∷ enqueue (sooner_of dues) xs r))
  by_case true e ih = (none, rises) where
    none : NoneBefore (due_at dues) (due_at dues r) (x ∷ xs)
    none t here = at (is_front t x xs here) where
      at : (x ≡ t) ⊎ (1 ≤ times t xs) → due_at dues r ≤ due_at dues t
      at (inl same) = omega (arith, later (due_at dues r) (due_at dues x) e, ap (due_at dues) same)
      at (inr there) = omega (arith, later (due_at dues r) (due_at dues x) e, rises.0 t there)
  by_case false e ih = (none, ih) where
    none : NoneBefore (due_at dues) (due_at dues x) (enqueue (sooner_of dues) xs r)
    none t here = at (is_front t r xs (omega (arith, here, times-enqueue (sooner_of dues) t r xs))) where
      at : (r ≡ t) ⊎ (1 ≤ times t xs) → due_at dues x ≤ due_at dues t
      at (inl same) = omega (arith, not_later (due_at dues r) (due_at dues x) e, ap (due_at dues) same)
      at (inr there) = rises.0 t there

rises_all : (dues s xs : List ℕ) → Rises (due_at dues) s → Rises (due_at dues) (fold (enqueue (sooner_of dues)) s xs)
rises_all dues s [] rises = rises
rises_all dues s (x ∷ xs) rises = rises_all dues (enqueue (sooner_of dues) s x) xs (rises_enqueue dues x s rises)

-- in order of their times the times rise
pub rises_order : (dues xs : List ℕ) → Rises (due_at dues) (order (sooner_of dues) xs)
unfolding order
rises_order dues xs = rises_all dues [] xs tt

-- a request that is not there may have another time
pub order_redue : (dues : List ℕ) (r time : ℕ) (p : ℕ → Bool) (xs : List ℕ) → times r xs ≡ 0
    → order (sooner_of (slice_set dues r time)) (filter p xs) ≡ order (sooner_of dues) (filter p xs)
order_redue dues r time p xs none =
    order_reads_keys ℕ (sooner_of dues) (sooner_of (slice_set dues r time)) (filter p xs) (all_that_stand _ (filter p xs) same) where
      same : (t : ℕ) → 1 ≤ times t (filter p xs) → sooner_of (slice_set dues r time) t ≡ sooner_of dues t
      same t here =
          ap (λ n. neg_ℤ (pos n)) (get_or-set_other dues r t time 0
          (λ e. omega (arith, here, none, times_filter p t xs, ap (λ k. times k xs) e)))

-- ---- the first that is due

-- if none is due, none is found
late : (dues : List ℕ) (time least : ℕ) (xs : List ℕ) → time < least → NoneBefore (due_at dues) least xs
    → find (λ r. nat_le (due_at dues r) time) xs ≡ None
late dues time least [] past none = refl
late dues time least (x ∷ xs) past none =
    let after : time < due_at dues x = omega (arith, past, none x (stands_here x xs)) in
    let no_le : nat_le (due_at dues x) time ≡ false = grind arith in
    cond-false _ _ _ no_le ∙ late dues time least xs past (λ t here. none t (omega (arith, here, times_later t x xs)))

pub none_found : (dues : List ℕ) (time r : ℕ) (xs : List ℕ) → Rises (due_at dues) xs → Some r ≡ first xs → time < due_at dues r
    → find (λ r. nat_le (due_at dues r) time) xs ≡ None
none_found dues time r [] rises e l = cc
none_found dues time r (x ∷ xs) rises e l =
    let same : r ≡ x = cc in
    let after : time < due_at dues x = omega (arith, l, ap (due_at dues) same) in
    let no_le : nat_le (due_at dues x) time ≡ false = grind arith in
    cond-false _ _ _ no_le ∙ late dues time (due_at dues x) xs after rises.0

-- the timer with other requests that wait
abbrev pub with_waiting : Held → List Waiting → Held
with_waiting held waiting = on_timer (λ timer. record timer { waiting = waiting }) held

-- the timer that clock, system time, homes, due times and the order in which requests were begun show
abbrev pub timer_of : (clock system tick_micros : ℕ) (is_set : Bool) (homes : List (Option ℕ)) (dues : List ℕ) (all : List (List ℕ)) → Timer
timer_of clock system tick_micros is_set homes dues all = record {
  clock = clock;
  system = system;
  tick_micros = tick_micros;
  is_set = is_set;
  waiting = waiting_for (due_in homes dues) (sequence all 0);
}

-- what the code keeps then, and which requests wait
pub record IsKept (queues : List (List ℕ)) (homes : List (Option ℕ)) (all : List (List ℕ)) (begun : List (Option ℕ)) (dues : List ℕ) (waiting : List Waiting) : Type 0 where
  pub held : KeepsTimer queues homes all begun dues
  pub waits : waiting_for (due_in homes dues) (sequence all 0) ≡ waiting

-- ---- one header written

pub written_here : (all : List (List ℕ)) (h : ℕ) (xs : List ℕ) → h < length all → sequence (slice_set all h xs) h ≡ xs
written_here all h xs l = get_or-set_same all h xs [] l

pub written_other : (all : List (List ℕ)) (h k : ℕ) (xs : List ℕ) → (k ≡ h → ⊥) → sequence (slice_set all h xs) k ≡ sequence all k
written_other all h k xs other = get_or-set_other all h k xs [] other

-- a request that leaves its header leaves each sequence
pub departed : (all new : List (List ℕ)) (homes : List (Option ℕ)) (r : ℕ) → Stands all homes
    → IsSome (home homes r) → IfSome (home homes r) (λ h. new ≡ slice_set all h (without_item r (sequence all h)))
    → (k : ℕ) → sequence new k ≡ without_item r (sequence all k)
departed all new homes r stands has taken k = at (home homes r) refl has taken where
  at : (o : Option ℕ) → home homes r ≡ o → IsSome o → IfSome o (λ h. new ≡ slice_set all h (without_item r (sequence all h)))
      → sequence new k ≡ without_item r (sequence all k)
  at None e has taken = cc
  at (Some h) e has taken = by_case (cases_eq k h) where
    by_case : (k ≡ h) ⊎ (k ≡ h → ⊥) → sequence new k ≡ without_item r (sequence all k)
    by_case (inl same) =
        ap (λ l. sequence l k) taken ∙ ap (sequence (slice_set all h (without_item r (sequence all h)))) same
        ∙ written_here all h (without_item r (sequence all h)) (home_there all homes r h stands e)
        ∙ ap (λ j. without_item r (sequence all j)) (sym same)
    by_case (inr other) =
        ap (λ l. sequence l k) taken ∙ written_other all h k (without_item r (sequence all h)) other
        ∙ sym (without_fresh r (sequence all k) (stands k r ∙ ap {B = ℕ} (λ o. cond (is_at o k) 1 0) e
        ∙ cond-false {A = ℕ} (eqb h k) 1 0 (ne_eqb h k (λ same. other (sym same)))))

-- ---- none waits

order_none : (key : ℕ → ℤ) → order key [] ≡ []
unfolding order
order_none key = refl

same_everywhere : {A : Type 0} (n i : ℕ) (d : A) → slice_index_or (replicate n d) i d ≡ d
same_everywhere n i d = by_case (cases_lt i n) where
  by_case : (i < n) ⊎ (n ≤ i) → slice_index_or (replicate n d) i d ≡ d
  by_case (inl small) = get_or-replicate n i d d small
  by_case (inr large) = get_or_past (replicate n d) i d (omega (arith, large, length-replicate n d))

pub held_none : (n : ℕ) (queues all : List (List ℕ)) (homes begun : List (Option ℕ)) (dues : List ℕ)
    → queues ≡ replicate 2 [] → homes ≡ replicate n None → all ≡ replicate 1 [] → begun ≡ replicate n None → length dues ≡ n
    → KeepsTimer queues homes all begun dues
held_none n queues all homes begun dues q h a b d =
    let none : sequence all 0 ≡ [] = ap (λ l. sequence l 0) a ∙ same_everywhere 1 0 [] in
    record {
      two_headers = ap length q ∙ length-replicate {A = List ℕ} 2 [];
      one_header = ap length a ∙ length-replicate {A = List ℕ} 1 [];
      each = ap length h ∙ length-replicate n None ∙ sym d;
      each_begun = ap length b ∙ length-replicate n None ∙ sym d;
      by_time = λ k l. ap (λ s. sequence s k) q ∙ same_everywhere 2 k []
          ∙ sym (ap (λ s. order (sooner_of dues) (begun_in homes k s)) none ∙ order_none (sooner_of dues));
      waits = λ r. ap (times r) none ∙ sym (ap (λ o. cond {A = ℕ} (is_some o) 1 0) (ap (λ s. home s r) h ∙ same_everywhere n r None));
    }

-- ---- one comes

-- the times of a header rise
pub rises_now : (queues all : List (List ℕ)) (homes begun : List (Option ℕ)) (dues : List ℕ) → KeepsTimer queues homes all begun dues → (h : ℕ)
    → h < 2 → Rises (due_at dues) (sequence queues h)
rises_now queues all homes begun dues held h there =
    subst (Rises (due_at dues)) (sym (held.by_time h there)) (rises_order dues (begun_in homes h (sequence all 0)))

-- the times of a header rise, whatever time a request has that does not wait
pub queue_rises : (queues all : List (List ℕ)) (homes begun : List (Option ℕ)) (dues : List ℕ) → KeepsTimer queues homes all begun dues
    → (r h time : ℕ) → h < 2 → times r (sequence all 0) ≡ 0
    → Rises (due_at (slice_set dues r time)) (sequence queues h)
queue_rises queues all homes begun dues held r h time there loose =
    subst (Rises (due_at (slice_set dues r time))) (order_redue dues r time (λ t. is_at (home homes t) h) (sequence all 0) loose
    ∙ sym (held.by_time h there))
    (rises_order (slice_set dues r time) (begun_in homes h (sequence all 0)))

module _ (queues all : List (List ℕ)) (homes begun : List (Option ℕ)) (dues : List ℕ) (held : KeepsTimer queues homes all begun dues)
    (r h time : ℕ)
    (there : h < 2) (known : r < length dues) (loose : times r (sequence all 0) ≡ 0) (queues' all' : List (List ℕ))
    (homes' begun' : List (Option ℕ))
    (joined : List ℕ) (placed : joined ≡ enqueue (sooner_of (slice_set dues r time)) (sequence queues h) r)
    (written : queues' ≡ slice_set queues h joined) (own : homes' ≡ slice_set homes r (Some h))
    (begins : all' ≡ slice_set all 0 (sequence all 0 ++ r ∷ [])) (own_begun : begun' ≡ slice_set begun r (Some 0)) where
  queued : queues' ≡ slice_set queues h (enqueue (sooner_of (slice_set dues r time)) (sequence queues h) r)
  queued = written ∙ ap (slice_set queues h) placed

  home_new : home homes' r ≡ Some h
  home_new = ap (λ l. home l r) own ∙ get_or-set_same homes r (Some h) None (omega (arith, known, held.each))

  home_old : (t : ℕ) → (t ≡ r → ⊥) → home homes' t ≡ home homes t
  home_old t other = ap (λ l. home l t) own ∙ get_or-set_other homes r t (Some h) None other

  due_old : (t : ℕ) → (t ≡ r → ⊥) → due_in homes' (slice_set dues r time) t ≡ due_in homes dues t
  due_old t other =
      ap (λ o. cond (is_at o 1) (AtSystem (due_at (slice_set dues r time) t)) (AtClock (due_at (slice_set dues r time) t)))
      (home_old t other)
      ∙ ap (λ n. cond (is_at (home homes t) 1) (AtSystem n) (AtClock n)) (get_or-set_other dues r t time 0 other)

  due_new : due_in homes' (slice_set dues r time) r ≡ due_for h time
  due_new =
      ap (λ o. cond (is_at o 1) (AtSystem (due_at (slice_set dues r time) r)) (AtClock (due_at (slice_set dues r time) r))) home_new
      ∙ ap (λ n. cond (eqb h 1) (AtSystem n) (AtClock n)) (get_or-set_same dues r time 0 known)

  last_now : sequence all' 0 ≡ sequence all 0 ++ r ∷ []
  last_now = ap (λ l. sequence l 0) begins ∙ written_here all 0 (sequence all 0 ++ r ∷ []) (omega (arith, held.one_header))

  joins : (k : ℕ) → begun_in homes' k (sequence all' 0) ≡ begun_in homes k (sequence all 0) ++ cond (eqb h k) (r ∷ []) []
  joins k =
      ap (begun_in homes' k) last_now
      ∙ filter_joined (λ t. is_at (home homes t) k) (λ t. is_at (home homes' t) k) r (sequence all 0) loose
      (λ t other. ap (λ o. is_at o k) (home_old t other))
      ∙ ap (λ o. begun_in homes k (sequence all 0) ++ cond (is_at o k) (r ∷ []) []) home_new

  by_time_joined : (k : ℕ) → k < 2 → sequence queues' k ≡ order (sooner_of (slice_set dues r time)) (begun_in homes' k (sequence all' 0))
  by_time_joined k l = by_case (cases_eq k h) where
    before : order (sooner_of (slice_set dues r time)) (begun_in homes k (sequence all 0)) ≡ sequence queues k
    before = order_redue dues r time (λ t. is_at (home homes t) k) (sequence all 0) loose ∙ sym (held.by_time k l)

    by_case : (k ≡ h) ⊎ (k ≡ h → ⊥) → sequence queues' k ≡ order (sooner_of (slice_set dues r time)) (begun_in homes' k (sequence all' 0))
    by_case (inl same) =
        ap (λ l. sequence l k) queued
        ∙ ap (λ j. sequence (slice_set queues j (enqueue (sooner_of (slice_set dues r time)) (sequence queues j) r)) k) (sym same)
        ∙ written_here queues k (enqueue (sooner_of (slice_set dues r time)) (sequence queues k) r) (omega (arith, l, held.two_headers))
        ∙ ap (λ s. enqueue (sooner_of (slice_set dues r time)) s r) (sym before)
        ∙ sym (order_takes ℕ (sooner_of (slice_set dues r time)) (begun_in homes k (sequence all 0)) r)
        ∙ ap (order (sooner_of (slice_set dues r time))) (sym
        (joins k ∙ ap (λ s. begun_in homes k (sequence all 0) ++ s)
        (cond-true {A = List ℕ} (eqb h k) (r ∷ []) [] (eq-eqb h k (sym same)))))
    by_case (inr other) =
        ap (λ l. sequence l k) queued
        ∙ written_other queues h k (enqueue (sooner_of (slice_set dues r time)) (sequence queues h) r) other
        ∙ sym before
        ∙ ap (order (sooner_of (slice_set dues r time)))
        (sym (joins k ∙ ap (λ s. begun_in homes k (sequence all 0) ++ s)
        (cond-false {A = List ℕ} (eqb h k) (r ∷ []) [] (ne_eqb h k (λ same. other (sym same))))
        ∙ append-nil (begun_in homes k (sequence all 0))))

  waits_joined : (t : ℕ) → times t (sequence all' 0) ≡ cond (is_some (home homes' t)) 1 0
  waits_joined t = ap (times t) last_now ∙ times-append t (sequence all 0) (r ∷ []) ∙ by_case (cases_eq t r) where
    by_case : (t ≡ r) ⊎ (t ≡ r → ⊥) → times t (sequence all 0) + times t (r ∷ []) ≡ cond (is_some (home homes' t)) 1 0
    by_case (inl same) =
        let once : times t (r ∷ []) ≡ 1 = cond-true {A = ℕ} (eqb r t) 1 0 (eq-eqb r t (sym same)) in
        let none : times t (sequence all 0) ≡ 0 = ap (λ k. times k (sequence all 0)) same ∙ loose in
        let there : cond {A = ℕ} (is_some (home homes' t)) 1 0 ≡ 1 = ap (λ o. cond {A = ℕ} (is_some o) 1 0)
        (ap (home homes') same ∙ home_new) in
        omega (arith, once, none, there)
    by_case (inr other) =
        let none : times t (r ∷ []) ≡ 0 = cond-false {A = ℕ} (eqb r t) 1 0 (ne_eqb r t (λ same. other (sym same))) in
        let there : cond {A = ℕ} (is_some (home homes' t)) 1 0 ≡ cond {A = ℕ} (is_some (home homes t)) 1 0 = ap
        (λ o. cond {A = ℕ} (is_some o) 1 0) (home_old t other) in
        omega (arith, none, there, held.waits t)

  held_joined : KeepsTimer queues' homes' all' begun' (slice_set dues r time)
  held_joined = record {
    two_headers = ap length queued ∙ length-set queues h _ ∙ held.two_headers;
    one_header = ap length begins ∙ length-set all 0 _ ∙ held.one_header;
    each = ap length own ∙ length-set homes r _ ∙ held.each ∙ sym (length-set dues r time);
    each_begun = ap length own_begun ∙ length-set begun r _ ∙ held.each_begun ∙ sym (length-set dues r time);
    by_time = by_time_joined;
    waits = waits_joined;
  }

  waiting_more : waiting_for (due_in homes' (slice_set dues r time)) (sequence all' 0)
      ≡ waiting_for (due_in homes dues) (sequence all 0) ++ record { request = r; due = due_for h time } ∷ []
  waiting_more =
      ap (waiting_for (due_in homes' (slice_set dues r time))) last_now
      ∙ waiting_joined (due_in homes dues) (due_in homes' (slice_set dues r time)) r (sequence all 0) loose due_old
      ∙ ap (λ (o : Due). waiting_for (due_in homes dues) (sequence all 0) ++ record { request = r; due = o } ∷ []) due_new

  pub one_comes : IsKept queues' homes' all' begun' (slice_set dues r time) (waiting_for (due_in homes dues) (sequence all 0) ++ record { request = r; due = due_for h time } ∷ [])
  one_comes = record { held = held_joined; waits = waiting_more }

-- ---- one goes

module _ (queues all : List (List ℕ)) (homes begun : List (Option ℕ)) (dues : List ℕ) (held : KeepsTimer queues homes all begun dues) (r : ℕ)
    (known : r < length homes) (queues' all' : List (List ℕ)) (homes' begun' : List (Option ℕ))
    (two : length queues' ≡ length queues) (left : (k : ℕ) → sequence queues' k ≡ without_item r (sequence queues k))
    (own : homes' ≡ slice_set homes r None)
    (one : length all' ≡ length all) (ends : sequence all' 0 ≡ without_item r (sequence all 0))
    (own_begun : begun' ≡ slice_set begun r None) where
  home_kept : (t : ℕ) → (t ≡ r → ⊥) → home homes' t ≡ home homes t
  home_kept t other = ap (λ l. home l t) own ∙ get_or-set_other homes r t None None other

  leaves : (k : ℕ) → begun_in homes' k (sequence all' 0) ≡ without_item r (begun_in homes k (sequence all 0))
  leaves k =
      ap (begun_in homes' k) ends
      ∙ filter_left (λ t. is_at (home homes t) k) (λ t. is_at (home homes' t) k) r (sequence all 0)
      (λ t other. ap (λ o. is_at o k) (home_kept t other))

  waits_left : (t : ℕ) → times t (sequence all' 0) ≡ cond (is_some (home homes' t)) 1 0
  waits_left t = ap (times t) ends ∙ by_case (cases_eq t r) where
    by_case : (t ≡ r) ⊎ (t ≡ r → ⊥) → times t (without_item r (sequence all 0)) ≡ cond (is_some (home homes' t)) 1 0
    by_case (inl same) =
        ap (λ k. times k (without_item r (sequence all 0))) same ∙ times_without r (sequence all 0)
        ∙ sym (ap (λ o. cond {A = ℕ} (is_some o) 1 0) (ap (home homes') same ∙ ap (λ l. home l r) own
        ∙ get_or-set_same homes r None None known))
    by_case (inr other) =
        times_without_other r t (sequence all 0) other ∙ held.waits t ∙ sym (ap (λ o. cond {A = ℕ} (is_some o) 1 0) (home_kept t other))

  held_left : KeepsTimer queues' homes' all' begun' dues
  held_left = record {
    two_headers = two ∙ held.two_headers;
    one_header = one ∙ held.one_header;
    each = ap length own ∙ length-set homes r None ∙ held.each;
    each_begun = ap length own_begun ∙ length-set begun r None ∙ held.each_begun;
    by_time = λ k l. left k ∙ ap (without_item r) (held.by_time k l)
        ∙ sym (order_leaves_out ℕ (sooner_of dues) (λ x. not (eqb x r)) (begun_in homes k (sequence all 0)))
        ∙ ap (order (sooner_of dues)) (sym (leaves k));
    waits = waits_left;
  }

  waiting_less : waiting_for (due_in homes' dues) (sequence all' 0)
      ≡ filter (λ (w : Waiting). not (eqb w.request r)) (waiting_for (due_in homes dues) (sequence all 0))
  waiting_less =
      ap (waiting_for (due_in homes' dues)) ends
      ∙ waiting_left (due_in homes dues) (due_in homes' dues) r (sequence all 0)
      (λ t other. ap (λ o. cond (is_at o 1) (AtSystem (due_at dues t)) (AtClock (due_at dues t))) (home_kept t other))

  pub one_goes : IsKept queues' homes' all' begun' dues (filter (λ (w : Waiting). not (eqb w.request r)) (waiting_for (due_in homes dues) (sequence all 0)))
  one_goes = record { held = held_left; waits = waiting_less }
