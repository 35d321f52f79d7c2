-- A task that was never added comes after the others: what reads a schedule, the scripts or the memory reads the same
-- of the other tasks, and what changes them leaves it there.
use Rattle.std.proofs.Common.{inl, inr, ◌≡◌, ◌≢◌, ◌⊎◌, ℕ, zero, suc, ◌+◌, ℤ, Bool, true, false, not, ◌&&◌, ◌||◌, if◌then◌else◌, List, [], ◌∷◌, ◌++◌, Option, None, Some, length, nat_eq, refl, sym, ap, ap₂, ◌∙◌, arith, slice_index_or, slice_set, length-set, length-append, find, cond, subst, int_lt, int_le, ◌==◌}
use Rattle.std.specs.{List.range_with_len, Option.option_or}
use Rattle.memlist.proofs.Answered.{cases_eq}
use Rattle.execlist.specs.{Disciplines.by_arrival, Disciplines.pri_at, Order.chosen, Order.chosen_or, Order.is_lower, Order.without_item}
use Rattle.signals.specs.Signals.{SignalSets, initial_sets, grant, after_grant, after_set, after_take, after_free, after_post, taken_signals}
use Rattle.forbid.specs.Nesting.{Nesting, initial_nesting}
use Rattle.taskq.specs.declared.TaskState.TheVariants.{Absent, Ready, Running, Waiting, Removed}
use Rattle.taskq.specs.{Tasks.state_at, Tasks.is_ready, Tasks.is_live, Tasks.is_live_named, declared.TaskState.TaskState, declared.Why.TheVariants.Signals, declared.Why.TheVariants.Sem}
use Rattle.scheduler.specs.Schedule.{Schedule, task_name, priority_of, status_of, signals_of, nesting_of, with_status, with_signals, with_priority, is_switching_allowed, is_quantum_over, takes_over, switch_for, renewed, begins, quantum_ticked, ticked_for, is_absent, leaves, departs, task_removed, found, awaits, waits_for, takes_signals, after_wait, clears_and_waits, allocates_signal, sets_signals, frees_signal, waits_at_semaphore, nested}
use Rattle.scheduler.specs.{declared.Switch.Switch as Choice, Dispatch.arrives, Dispatch.switch_of, Dispatch.displaced, Dispatch.after_switch, Dispatch.rescheduled, Dispatch.added, Dispatch.reprioritized, Dispatch.signalled}
use Rattle.scheduler.specs.declared.Switch.TheVariants as switch
use Rattle.scheduler.specs.Joining.{joined_by}
use Rattle.std.specs.Cmp.Lexicographic.{pointwise}
use Rattle.std.proofs.lemmas.List.Folds.{find-append}
use Rattle.execlist.proofs.PlainLemmas.{range_more}
use Rattle.forbid.specs.Nesting.{may_switch}
use Rattle.execmodel.proofs.{Agreement.some_same, Commands.none_some, Heaps.true_is_not_false, Queues.IsAway}

-- ---- lists with one more item at the end

pub set_last : {A : Type 0} (t : ℕ) (x a : A) (xs : List A) → t ≢ length xs → slice_set (xs ++ a ∷ []) t x ≡ slice_set xs t x ++ a ∷ []
set_last zero x a [] apart = absurd (apart refl)
set_last (suc t) x a [] apart = refl
set_last zero x a (y ∷ xs) apart = refl
set_last (suc t) x a (y ∷ xs) apart = ap (λ ys. y ∷ ys) (set_last t x a xs (λ e. apart (ap suc e)))

pub get_last : {A : Type 0} (t : ℕ) (d a : A) (xs : List A) → t ≢ length xs → slice_index_or (xs ++ a ∷ []) t d ≡ slice_index_or xs t d
get_last zero d a [] apart = absurd (apart refl)
get_last (suc t) d a [] apart = refl
get_last zero d a (y ∷ xs) apart = refl
get_last (suc t) d a (y ∷ xs) apart = get_last t d a xs (λ e. apart (ap suc e))

-- one that is read past the end too
get_same : {A : Type 0} (t : ℕ) (d : A) (xs : List A) → slice_index_or (xs ++ d ∷ []) t d ≡ slice_index_or xs t d
get_same zero d [] = refl
get_same (suc t) d [] = refl
get_same zero d (y ∷ xs) = refl
get_same (suc t) d (y ∷ xs) = get_same t d xs

none_last : (p : ℕ → Bool) (k : ℕ) → p k ≡ false → find p (k ∷ []) ≡ None
none_last p k e = ap (λ b. cond b (Some k) None) e

or_none : {A : Type 0} (found : Option A) → option_or found None ≡ found
or_none None = refl
or_none (Some x) = refl

find_same : (p q : ℕ → Bool) (xs : List ℕ) → ((k : ℕ) → p k ≡ q k) → find p xs ≡ find q xs
find_same p q [] alike = refl
find_same p q (x ∷ xs) alike = ap₂ (λ b rest. cond b (Some x) rest) (alike x) (find_same p q xs alike)

past_end : {A : Type 0} (d : A) (xs : List A) → slice_index_or xs (length xs) d ≡ d
past_end d [] = refl
past_end d (x ∷ xs) = past_end d xs

-- ---- schedules

-- as many of each as there are tasks
pub record Fits (n : ℕ) (s : Schedule) : Type 0 where
  pub states : length s.queue.states ≡ n
  pub pris : length s.queue.pris ≡ n
  pub names : length s.queue.names ≡ n
  pub signals : length s.signals ≡ n
  pub nestings : length s.nestings ≡ n

module _ (n : ℕ) (pri : ℤ) (name : List ℕ) where
  -- a schedule with the new task
  abbrev pub joined : Schedule → Schedule
  joined s = joined_by pri name s

  -- a change of a schedule that leaves the new task as it is
  pub record Moves (s r : Schedule) (moved : Schedule) : Type 0 where
    pub same : moved ≡ joined r
    pub fits : Fits n r

  apart_from : {A : Type 0} (t : ℕ) (xs : List A) → length xs ≡ n → t ≢ n → t ≢ length xs
  apart_from t xs count apart = λ e. apart (e ∙ count)

  pub name_same : (t : ℕ) (s : Schedule) → Fits n s → t ≢ n → task_name (joined s) t ≡ task_name s t
  name_same t s fits apart = get_last t [] name s.queue.names (apart_from t s.queue.names fits.names apart)

  pub pri_same : (t : ℕ) (s : Schedule) → Fits n s → t ≢ n → priority_of (joined s) t ≡ priority_of s t
  pri_same t s fits apart = get_last t _ pri s.queue.pris (apart_from t s.queue.pris fits.pris apart)

  pub status_same : (t : ℕ) (s : Schedule) → status_of (joined s) t ≡ status_of s t
  status_same t s = get_same t Absent s.queue.states

  pub signals_same : (t : ℕ) (s : Schedule) → signals_of (joined s) t ≡ signals_of s t
  signals_same t s = get_same t initial_sets s.signals

  pub nesting_same : (t : ℕ) (s : Schedule) → nesting_of (joined s) t ≡ nesting_of s t
  nesting_same t s = get_same t initial_nesting s.nestings

  -- the new task is absent
  pub absent_last : (s : Schedule) → Fits n s → status_of s n ≡ Absent
  absent_last s fits = ap (λ k. state_at s.queue.states k) (sym fits.states) ∙ past_end Absent s.queue.states

  -- a task of which a test holds that does not hold of an absent one is another
  is_other : (test : TaskState → Bool) → test Absent ≡ false → (t : ℕ) (s : Schedule) → Fits n s → test (status_of s t) ≡ true → t ≢ n
  is_other test none t s fits is = λ here. true_is_not_false (sym is ∙ ap (λ k. test (status_of s k)) here ∙ ap test (absent_last s fits) ∙ none)

  pub live_is_other : (t : ℕ) (s : Schedule) → Fits n s → is_live (status_of s t) ≡ true → t ≢ n
  live_is_other = is_other is_live refl

  -- ---- changes of one task

  set_fits : (t : ℕ) (status : TaskState) (s : Schedule) → Fits n s → Fits n (with_status t status s)
  set_fits t status s fits = record {
    states = length-set s.queue.states t status ∙ fits.states;
    pris = fits.pris;
    names = fits.names;
    signals = fits.signals;
    nestings = fits.nestings;
  }

  -- the same of a schedule that differs in which tasks run or are ready, and for how long
  regained : {s : Schedule} {ready : List ℕ} {running : Option ℕ} → Fits n s → Fits n (record s { queue = record s.queue { ready = ready }; running = running })
  regained fits = record { states = fits.states; pris = fits.pris; names = fits.names; signals = fits.signals; nestings = fits.nestings }

  status_moves : (t : ℕ) (status : TaskState) (s : Schedule) → Fits n s → t ≢ n → with_status t status (joined s) ≡ joined (with_status t status s)
  status_moves t status s fits apart =
      ap (λ states. record (joined s) { queue = record (joined s).queue { states = states } })
      (set_last t status Absent s.queue.states (apart_from t s.queue.states fits.states apart))

  -- the signals of a task change by what they are
  signals_move : (t : ℕ) (f : SignalSets → SignalSets) (s : Schedule) → Fits n s → t ≢ n
      → with_signals t (f (signals_of (joined s) t)) (joined s) ≡ joined (with_signals t (f (signals_of s t)) s)
  signals_move t f s fits apart =
      ap (λ (sets : SignalSets). with_signals t (f sets) (joined s)) (signals_same t s)
      ∙ ap (λ signals. record (joined s) { signals = signals })
      (set_last t (f (signals_of s t)) initial_sets s.signals (apart_from t s.signals fits.signals apart))

  signals_fit : (t : ℕ) (sets : SignalSets) (s : Schedule) → Fits n s → Fits n (with_signals t sets s)
  signals_fit t sets s fits = record {
    states = fits.states;
    pris = fits.pris;
    names = fits.names;
    signals = length-set s.signals t sets ∙ fits.signals;
    nestings = fits.nestings;
  }

  signals_moves : (t : ℕ) (f : SignalSets → SignalSets) (s : Schedule) → Fits n s → t ≢ n
      → Moves s (with_signals t (f (signals_of s t)) s) (with_signals t (f (signals_of (joined s) t)) (joined s))
  signals_moves t f s fits apart = record { same = signals_move t f s fits apart; fits = signals_fit t (f (signals_of s t)) s fits }

  pub allocates_moves : (t : ℕ) (k : ℤ) (s : Schedule) → Fits n s → t ≢ n → Moves s (allocates_signal t k s) (allocates_signal t k (joined s))
  unfolding allocates_signal
  allocates_moves t k s fits apart = signals_moves t (λ sets. after_grant (grant k sets) sets) s fits apart

  pub sets_moves : (t new mask : ℕ) (s : Schedule) → Fits n s → t ≢ n → Moves s (sets_signals t new mask s) (sets_signals t new mask (joined s))
  unfolding sets_signals
  sets_moves t new mask s fits apart = signals_moves t (after_set new mask) s fits apart

  takes_moves : (t mask : ℕ) (s : Schedule) → Fits n s → t ≢ n → Moves s (takes_signals t mask s) (takes_signals t mask (joined s))
  unfolding takes_signals
  takes_moves t mask s fits apart = signals_moves t (after_take mask) s fits apart

  pub stays_moves : (s : Schedule) → Fits n s → Moves s s (joined s)
  stays_moves s fits = record { same = refl; fits = fits }

  -- either of two changes, by tests that are alike
  either_moves : (test other : Bool) (s r q : Schedule) (moved another : Schedule) → other ≡ test
      → (test ≡ true → Moves s r moved) → (test ≡ false → Moves s q another)
      → Moves s (if test then r else q) (if other then moved else another)
  either_moves test other s r q moved another alike one two = subst (λ b. Moves s (if test then r else q) (if b then moved else another)) (sym alike) (by_test test one two)
    where
      by_test : (b : Bool) → (b ≡ true → Moves s r moved) → (b ≡ false → Moves s q another)
          → Moves s (if b then r else q) (if b then moved else another)
      by_test true one two = one refl
      by_test false one two = two refl

  pub frees_moves : (t k : ℕ) (s : Schedule) → Fits n s → Moves s (frees_signal t k s) (frees_signal t k (joined s))
  unfolding frees_signal
  frees_moves t k s fits =
      either_moves (is_live (status_of s t)) (is_live (status_of (joined s) t)) s _ _ _ _ (ap is_live (status_same t s))
      (λ live. signals_moves t (after_free k) s fits (live_is_other t s fits live)) (λ dead. stays_moves s fits)

  pub leaves_moves : (t : ℕ) (s : Schedule) → Fits n s → t ≢ n → Moves s (leaves t s) (leaves t (joined s))
  unfolding leaves
  leaves_moves t s fits apart = record {
    same = ap (λ (r : Schedule). record r { running = None }) (status_moves t Removed s fits apart);
    fits = regained (set_fits t Removed s fits);
  }

  pub removed_moves : (t : ℕ) (s : Schedule) → Fits n s → t ≢ n → Moves s (task_removed t s) (task_removed t (joined s))
  unfolding task_removed
  removed_moves t s fits apart = record {
    same = ap (λ (r : Schedule). departs t r) (status_moves t Removed s fits apart);
    fits = regained (set_fits t Removed s fits);
  }

  pub waits_at_semaphore_moves : (t : ℕ) (s : Schedule) → Fits n s → t ≢ n → Moves s (waits_at_semaphore t s) (waits_at_semaphore t (joined s))
  unfolding waits_at_semaphore
  waits_at_semaphore_moves t s fits apart = record {
    same = ap (λ (r : Schedule). record r { running = None }) (status_moves t (Waiting Sem) s fits apart);
    fits = regained (set_fits t (Waiting Sem) s fits);
  }

  waits_moves : (t mask : ℕ) (s : Schedule) → Fits n s → t ≢ n → Moves s (waits_for t mask s) (waits_for t mask (joined s))
  unfolding waits_for
  waits_moves t mask s fits apart = record {
    same = ap (λ (r : Schedule). record r { running = None }) (status_moves t (Waiting (Signals mask)) s fits apart);
    fits = regained (set_fits t (Waiting (Signals mask)) s fits);
  }

  pub after_wait_moves : (t mask : ℕ) (s : Schedule) → Fits n s → t ≢ n → Moves s (after_wait t mask s) (after_wait t mask (joined s))
  after_wait_moves t mask s fits apart =
      either_moves (nat_eq (taken_signals mask (signals_of s t)) 0) (nat_eq (taken_signals mask (signals_of (joined s) t)) 0) s _ _ _ _
      (ap (λ (sets : SignalSets). nat_eq (taken_signals mask sets) 0) (signals_same t s))
      (λ none. waits_moves t mask s fits apart) (λ some. takes_moves t mask s fits apart)

  -- one change after another
  pub then_moves : (f : Schedule → Schedule) (s r moved : Schedule) → Moves s r moved → Moves r (f r) (f (joined r)) → Moves s (f r) (f moved)
  then_moves f s r moved one next = record { same = ap f one.same ∙ next.same; fits = next.fits }

  pub clears_moves : (t mask : ℕ) (s : Schedule) → Fits n s → t ≢ n → Moves s (clears_and_waits t mask s) (clears_and_waits t mask (joined s))
  clears_moves t mask s fits apart =
      let one = takes_moves t mask s fits apart in
      then_moves (waits_for t mask) s (takes_signals t mask s) (takes_signals t mask (joined s)) one (waits_moves t mask (takes_signals t mask s) one.fits apart)

  pub nested_moves : (t : ℕ) (nesting : Option Nesting) (s : Schedule) → Fits n s → t ≢ n → Moves s (nested t nesting s) (nested t nesting (joined s))
  nested_moves t None s fits apart = stays_moves s fits
  nested_moves t (Some nesting) s fits apart = record {
    same = ap (λ nestings. record (joined s) { nestings = nestings })
        (set_last t nesting initial_nesting s.nestings (apart_from t s.nestings fits.nestings apart));
    fits = record {
      states = fits.states;
      pris = fits.pris;
      names = fits.names;
      signals = fits.signals;
      nestings = length-set s.nestings t nesting ∙ fits.nestings;
    };
  }

  pub ticked_moves : (s : Schedule) → Fits n s → Moves s (quantum_ticked s) (quantum_ticked (joined s))
  unfolding quantum_ticked
  ticked_moves s fits = by_running s.running
    where
      by_running : (running : Option ℕ) → Moves s (ticked_for running s) (ticked_for running (joined s))
      by_running None = record { same = refl; fits = fits }
      by_running (Some r) = record {
        same = refl;
        fits = record { states = fits.states; pris = fits.pris; names = fits.names; signals = fits.signals; nestings = fits.nestings };
      }

  -- ---- becoming ready

  pub arrives_moves : (t : ℕ) (s : Schedule) → Fits n s → t ≢ n → Moves s (arrives by_arrival t s) (arrives by_arrival t (joined s))
  unfolding arrives
  arrives_moves t s fits apart = record {
    same = ap (λ (r : Schedule). record r { queue = record r.queue { ready = s.queue.ready ++ t ∷ [] } }) (status_moves t Ready s fits apart);
    fits = record {
      states = length-set s.queue.states t Ready ∙ fits.states;
      pris = fits.pris;
      names = fits.names;
      signals = fits.signals;
      nestings = fits.nestings;
    };
  }

  pub added_moves : (t : ℕ) (s : Schedule) → Fits n s → t ≢ n → Moves s (added by_arrival t s) (added by_arrival t (joined s))
  unfolding added
  added_moves t s fits apart =
      either_moves (is_absent (status_of s t)) (is_absent (status_of (joined s) t)) s _ _ _ _ (ap is_absent (status_same t s))
      (λ absent. arrives_moves t s fits apart) (λ other. stays_moves s fits)

  signalled_alive : (t mask : ℕ) (s : Schedule) → Fits n s → t ≢ n
      → Moves s
      (let got = with_signals t (after_post mask (signals_of s t)) s in
      if awaits (status_of s t) (signals_of got t).received then arrives by_arrival t got else got)
      (let got = with_signals t (after_post mask (signals_of (joined s) t)) (joined s) in
      if awaits (status_of (joined s) t) (signals_of got t).received then arrives by_arrival t got else got)
  signalled_alive t mask s fits apart =
      let got = with_signals t (after_post mask (signals_of s t)) s in
      let moved = with_signals t (after_post mask (signals_of (joined s) t)) (joined s) in
      let one = signals_moves t (after_post mask) s fits apart in
      let received : (signals_of moved t).received ≡ (signals_of got t).received
      = ap (λ (r : Schedule). (signals_of r t).received) one.same ∙ ap (λ (sets : SignalSets). sets.received) (signals_same t got) in
      either_moves (awaits (status_of s t) (signals_of got t).received) (awaits (status_of (joined s) t) (signals_of moved t).received) s _ _ _ _
      (ap₂ (λ status bits. awaits status bits) (status_same t s) received)
      (λ comes. then_moves (arrives by_arrival t) s got moved one (arrives_moves t got one.fits apart)) (λ none. one)

  pub signalled_moves : (t mask : ℕ) (s : Schedule) → Fits n s → Moves s (signalled by_arrival t mask s) (signalled by_arrival t mask (joined s))
  unfolding signalled
  signalled_moves t mask s fits =
      either_moves (not (is_live (status_of s t))) (not (is_live (status_of (joined s) t))) s _ _ _ _ (ap (λ status. not (is_live status)) (status_same t s))
      (λ dead. stays_moves s fits)
      (λ live. signalled_alive t mask s fits (live_is_other t s fits (not_not (is_live (status_of s t)) live)))
    where
      not_not : (b : Bool) → not b ≡ false → b ≡ true
      not_not true e = refl
      not_not false e = true_is_not_false e

  priority_moves : (t : ℕ) (new : ℤ) (s : Schedule) → Fits n s → t ≢ n → Moves s (with_priority t new s) (with_priority t new (joined s))
  priority_moves t new s fits apart = record {
    same = ap (λ pris. record (joined s) { queue = record (joined s).queue { pris = pris } })
        (set_last t new pri s.queue.pris (apart_from t s.queue.pris fits.pris apart));
    fits = record {
      states = fits.states;
      pris = length-set s.queue.pris t new ∙ fits.pris;
      names = fits.names;
      signals = fits.signals;
      nestings = fits.nestings;
    };
  }

  departs_moves : (t : ℕ) (s : Schedule) → Fits n s → Moves s (departs t s) (departs t (joined s))
  departs_moves t s fits = record {
    same = refl;
    fits = record { states = fits.states; pris = fits.pris; names = fits.names; signals = fits.signals; nestings = fits.nestings };
  }

  pub reprioritized_moves : (t : ℕ) (new : ℤ) (s : Schedule) → Fits n s → t ≢ n
      → Moves s (reprioritized by_arrival t new s) (reprioritized by_arrival t new (joined s))
  unfolding reprioritized
  reprioritized_moves t new s fits apart =
      let one = priority_moves t new s fits apart in
      let two = then_moves (departs t) s (with_priority t new s) (with_priority t new (joined s)) one (departs_moves t (with_priority t new s) one.fits) in
      either_moves (is_ready (status_of s t)) (is_ready (status_of (joined s) t)) s _ _ _ _ (ap is_ready (status_same t s))
      (λ ready. then_moves (arrives by_arrival t) s _ _ two (arrives_moves t _ two.fits apart)) (λ other. one)

  -- ---- the switch

  -- who is chosen is no other than those that are there
  pub away_chosen : (key : ℕ → ℤ) (xs : List ℕ) (t : ℕ) → IsAway n xs → chosen key xs ≡ Some t → t ≢ n
  away_chosen key [] t away is = none_some (sym is)
  away_chosen key (x ∷ xs) t away is = by_best (chosen key xs) (λ y best. away_chosen key xs y away.1 best) is
    where
      by_best : (best : Option ℕ) → ((y : ℕ) → best ≡ Some y → y ≢ n) → chosen_or key x best ≡ Some t → t ≢ n
      by_best None far e = λ here. away.0 (sym (some_same e ∙ here))
      by_best (Some y) far e = by_test (is_lower key x y) e
        where
          by_test : (b : Bool) → (if b then Some y else Some x) ≡ Some t → t ≢ n
          by_test true same = λ here. far y refl (some_same same ∙ here)
          by_test false same = λ here. away.0 (sym (some_same same ∙ here))

  chosen_keys : (key other : ℕ → ℤ) (xs : List ℕ) → ((t : ℕ) → t ≢ n → other t ≡ key t) → IsAway n xs → chosen other xs ≡ chosen key xs
  chosen_keys key other [] alike away = refl
  chosen_keys key other (x ∷ xs) alike away =
      ap (λ best. chosen_or other x best) (chosen_keys key other xs alike away.1) ∙ either (chosen key xs) (λ t is. away_chosen key xs t away.1 is)
    where
      either : (best : Option ℕ) → ((t : ℕ) → best ≡ Some t → t ≢ n) → chosen_or other x best ≡ chosen_or key x best
      either None far = refl
      either (Some y) far =
          ap₂ (λ (a b : ℤ). if int_lt a b then Some y else Some x) (alike x (λ e. away.0 (sym e))) (alike y (far y refl))

  -- the new task neither runs nor is ready
  pub record IsOut (s : Schedule) : Type 0 where
    pub running : s.running ≢ Some n
    pub ready : IsAway n s.queue.ready

  chosen_same : (s : Schedule) → Fits n s → IsOut s → chosen (pri_at (joined s).queue.pris) s.queue.ready ≡ chosen (pri_at s.queue.pris) s.queue.ready
  chosen_same s fits out =
      chosen_keys (pri_at s.queue.pris) (pri_at (joined s).queue.pris) s.queue.ready (λ t apart. pri_same t s fits apart) out.ready

  switching_same : (running : Option ℕ) (s : Schedule) → is_switching_allowed running (joined s) ≡ is_switching_allowed running s
  switching_same None s = refl
  switching_same (Some r) s = ap may_switch (nesting_same r s)

  choice_same : (running choice : Option ℕ) (s : Schedule) → Fits n s → running ≢ Some n → choice ≢ Some n
      → switch_for running choice (joined s) ≡ switch_for running choice s
  choice_same None None s fits one other = refl
  choice_same None (Some t) s fits one other = refl
  choice_same (Some r) None s fits one other = refl
  choice_same (Some r) (Some t) s fits one other =
      let allowed = switching_same (Some r) s in
      let of_r = pri_same r s fits (λ e. one (ap Some e)) in
      let of_t = pri_same t s fits (λ e. other (ap Some e)) in
      λ i. if allowed i && (int_lt (of_r i) (of_t i) || (int_le (of_r i) (of_t i) && is_quantum_over s)) then Some (switch.To t) else None

  pub switch_same : (s : Schedule) → Fits n s → IsOut s → switch_of by_arrival (joined s) ≡ switch_of by_arrival s
  unfolding switch_of
  switch_same s fits out =
      ap (λ choice. switch_for s.running choice (joined s)) (chosen_same s fits out)
      ∙ choice_same s.running (chosen (pri_at s.queue.pris) s.queue.ready) s fits out.running
      (λ e. away_chosen (pri_at s.queue.pris) s.queue.ready n out.ready e refl)

  to_same : {k t : ℕ} → Some (switch.To k) ≡ Some (switch.To t) → k ≡ t
  to_same e = cc

  -- a switch is to another task
  to_other : (running choice : Option ℕ) (t : ℕ) (s : Schedule) → choice ≢ Some n → switch_for running choice s ≡ Some (switch.To t) → t ≢ n
  to_other None None t s other is = by_idle s.idle is
    where
      by_idle : (idle : Bool) → (if idle then None else Some switch.Idle) ≡ Some (switch.To t) → t ≢ n
      by_idle true e = none_some (sym e)
      by_idle false e = cc
  to_other None (Some k) t s other is = λ here. other (ap Some (to_same is ∙ here))
  to_other (Some r) None t s other is = none_some (sym is)
  to_other (Some r) (Some k) t s other is = by_test (is_switching_allowed (Some r) s && takes_over k r s) is
    where
      by_test : (b : Bool) → (if b then Some (switch.To k) else None) ≡ Some (switch.To t) → t ≢ n
      by_test true e = λ here. other (ap Some (to_same e ∙ here))
      by_test false e = none_some (sym e)

  pub switch_to_other : (t : ℕ) (s : Schedule) → IsOut s → switch_of by_arrival s ≡ Some (switch.To t) → t ≢ n
  unfolding switch_of
  switch_to_other t s out is =
      to_other s.running (chosen (pri_at s.queue.pris) s.queue.ready) t s
      (λ e. away_chosen (pri_at s.queue.pris) s.queue.ready n out.ready e refl) is

  renewed_moves : (running : Option ℕ) (s : Schedule) → Fits n s → Moves s (renewed running s) (renewed running (joined s))
  renewed_moves None s fits = stays_moves s fits
  renewed_moves (Some r) s fits =
      either_moves (is_switching_allowed (Some r) s && is_quantum_over s) (is_switching_allowed (Some r) (joined s) && is_quantum_over s) s _ _ _ _
      (ap (λ b. b && is_quantum_over s) (switching_same (Some r) s))
      (λ over. record {
        same = refl;
        fits = record { states = fits.states; pris = fits.pris; names = fits.names; signals = fits.signals; nestings = fits.nestings };
      })
      (λ on. stays_moves s fits)

  displaced_moves : (running : Option ℕ) (s : Schedule) → Fits n s → running ≢ Some n → Moves s (displaced by_arrival running s) (displaced by_arrival running (joined s))
  displaced_moves None s fits other = stays_moves s fits
  displaced_moves (Some r) s fits other = arrives_moves r s fits (λ e. other (ap Some e))

  begins_moves : (t : ℕ) (s : Schedule) → Fits n s → t ≢ n → Moves s (begins t s) (begins t (joined s))
  unfolding begins
  begins_moves t s fits apart = record {
    same = ap (λ (r : Schedule). record r { queue = record r.queue { ready = without_item t s.queue.ready }; running = Some t; left = s.quantum; idle = false })
        (status_moves t Running s fits apart);
    fits = record {
      states = length-set s.queue.states t Running ∙ fits.states;
      pris = fits.pris;
      names = fits.names;
      signals = fits.signals;
      nestings = fits.nestings;
    };
  }

  after_moves : (choice : Option Choice) (s : Schedule) → Fits n s → IsOut s → ((t : ℕ) → choice ≡ Some (switch.To t) → t ≢ n)
      → Moves s (after_switch by_arrival choice s) (after_switch by_arrival choice (joined s))
  after_moves None s fits out other = renewed_moves s.running s fits
  after_moves (Some switch.Idle) s fits out other = record {
    same = refl;
    fits = record { states = fits.states; pris = fits.pris; names = fits.names; signals = fits.signals; nestings = fits.nestings };
  }
  after_moves (Some (switch.To t)) s fits out other =
      let one = displaced_moves s.running s fits out.running in
      then_moves (begins t) s (displaced by_arrival s.running s) (displaced by_arrival s.running (joined s)) one
      (begins_moves t (displaced by_arrival s.running s) one.fits (other t refl))

  pub rescheduled_moves : (s : Schedule) → Fits n s → IsOut s → Moves s (rescheduled by_arrival s) (rescheduled by_arrival (joined s))
  unfolding rescheduled
  rescheduled_moves s fits out =
      let one = after_moves (switch_of by_arrival s) s fits out (λ t is. switch_to_other t s out is) in
      record { same = ap (λ choice. after_switch by_arrival choice (joined s)) (switch_same s fits out) ∙ one.same; fits = one.fits }

  -- ---- who is found by name

  named_by : (k : ℕ) (wanted : List ℕ) (s : Schedule) → Fits n s → (k ≡ n) ⊎ (k ≢ n)
      → is_live_named (joined s).queue wanted k ≡ is_live_named s.queue wanted k
  named_by k wanted s fits (inl here) =
      ap (λ status. is_live status && pointwise ◌==◌ (task_name (joined s) k) wanted) (status_same k s ∙ ap (status_of s) here ∙ absent_last s fits)
      ∙ sym (ap (λ status. is_live status && pointwise ◌==◌ (task_name s k) wanted) (ap (status_of s) here ∙ absent_last s fits))
  named_by k wanted s fits (inr apart) =
      ap (λ status. is_live status && pointwise ◌==◌ (task_name (joined s) k) wanted) (status_same k s)
      ∙ ap (λ own. is_live (status_of s k) && pointwise ◌==◌ own wanted) (name_same k s fits apart)

  pub found_same : (wanted : List ℕ) (s : Schedule) → Fits n s → found wanted (joined s) ≡ found wanted s
  unfolding found
  found_same wanted s fits =
      let many = length s.queue.states in
      ap (λ count. find (is_live_named (joined s).queue wanted) (range_with_len 0 count))
      (length-append s.queue.states (Absent ∷ []) ∙ (let e : many + 1 ≡ suc many = omega arith in e))
      ∙ ap (find (is_live_named (joined s).queue wanted)) (range_more 0 many)
      ∙ (let e : 0 + many ≡ many = omega arith in
      ap (λ k. find (is_live_named (joined s).queue wanted) (range_with_len 0 many ++ k ∷ [])) e)
      ∙ find-append (is_live_named (joined s).queue wanted) (range_with_len 0 many) (many ∷ [])
      ∙ ap (λ found. option_or (find (is_live_named (joined s).queue wanted) (range_with_len 0 many)) found) (none_last (is_live_named (joined s).queue wanted) many absent)
      ∙ or_none (find (is_live_named (joined s).queue wanted) (range_with_len 0 many))
      ∙ find_same (is_live_named (joined s).queue wanted) (is_live_named s.queue wanted) (range_with_len 0 many)
      (λ k. named_by k wanted s fits (cases_eq k n inl inr))
    where
      absent : is_live_named (joined s).queue wanted (length s.queue.states) ≡ false
      absent = ap (λ status. is_live status && pointwise ◌==◌ (task_name (joined s) (length s.queue.states)) wanted)
          (status_same (length s.queue.states) s ∙ past_end Absent s.queue.states)
