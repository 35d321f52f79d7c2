-- What is held, and what waits, is the same but for one: from where it comes, and where it goes.
use Rattle.std.proofs.Common.{◌≡◌, ◌≢◌, ℕ, suc, ◌+◌, ◌<◌, ◌≤◌, ◌^◌, List, [], ◌∷◌, ◌++◌, Bool, true, false, cond, not, inl, inr, ◌⊎◌, length, refl, ap, sym, ◌∙◌, subst, arith, Some, None, Option, nat_lt, ◌==◌, ◌||◌, IsTrue, filter, slice_set, eq-eqb, lt-ltb, ne_eqb, length-set}
use Rattle.std.specs.List.{AllByRecursion, list_any}
use Rattle.std.proofs.lemmas.{Bool.cases_eq, Bool.or_left, Bool.or_right, List.Folds.list_any-append}
use Rattle.std.proofs.Math.Bool.{or-false, or-true}
use Rattle.execlist.specs.{Order.without_item, Lists.home, Lists.times}
use Rattle.execlist.proofs.Pools.{slot_known, slot_other, slot_same}
use Rattle.msgport.specs.Ports as ports
use Rattle.msgport.specs.Ports.{MessagePorts, is_held, is_message, is_port, let_go, left_port, posted, taken_out}
use Rattle.timerdev.specs.{Held.Held, Held.on_timer, Timing.Due, Timing.Waiting, Timing.begins_to_wait, Timing.is_waiting, Timing.system_set, Timing.waits_no_more}
use Rattle.execheap.specs.Numbered.{shape}
use Rattle.msgport.proofs.Linking.{left_home}
use Rattle.execheap.proofs.{Entries.some_same, Stepping.shape_written}

-- ---- how often a number is

times_front : (n m : ℕ) (xs : List ℕ) → m ≢ n → times m (n ∷ xs) ≡ times m xs
times_front n m xs other = ap (λ b. cond b (suc (times m xs)) (times m xs)) (ne_eqb n m (λ e. other (sym e)))

times_self : (n : ℕ) (xs : List ℕ) → times n (n ∷ xs) ≡ suc (times n xs)
times_self n xs = ap (λ b. cond b (suc (times n xs)) (times n xs)) (eq-eqb n n refl)

times_end_other : (n m : ℕ) (xs : List ℕ) → m ≢ n → times m (xs ++ n ∷ []) ≡ times m xs
times_end_other n m [] other = times_front n m [] other
times_end_other n m (x ∷ xs) other = ap (λ t. cond (x == m) (suc t) t) (times_end_other n m xs other)

times_end_self : (n : ℕ) (xs : List ℕ) → times n (xs ++ n ∷ []) ≡ suc (times n xs)
times_end_self n [] = times_self n []
times_end_self n (x ∷ xs) = ap (λ t. cond (x == n) (suc t) t) (times_end_self n xs) ∙ over (x == n) (times n xs) where
  over : (b : Bool) (t : ℕ) → cond b (suc (suc t)) (suc t) ≡ suc (cond b (suc t) t)
  over true t = refl
  over false t = refl

times_without_self : (n : ℕ) (xs : List ℕ) → times n (without_item n xs) ≡ 0
times_without_self n [] = refl
times_without_self n (x ∷ xs) = by_case (cases_eq x n) (times_without_self n xs) where
  by_case : (x ≡ n) ⊎ (x ≡ n → ⊥) → times n (without_item n xs) ≡ 0 → times n (without_item n (x ∷ xs)) ≡ 0
  by_case (inl same) rest = ap (λ b. times n (cond (not b) (x ∷ without_item n xs) (without_item n xs))) (eq-eqb x n same) ∙ rest
  by_case (inr other) rest =
      ap (λ b. times n (cond (not b) (x ∷ without_item n xs) (without_item n xs))) (ne_eqb x n other)
      ∙ times_front x n (without_item n xs) (λ e. other (sym e)) ∙ rest

times_without_other : (n m : ℕ) (xs : List ℕ) → m ≢ n → times m (without_item n xs) ≡ times m xs
times_without_other n m [] other = refl
times_without_other n m (x ∷ xs) other = by_case (cases_eq x n) (times_without_other n m xs other) where
  by_case : (x ≡ n) ⊎ (x ≡ n → ⊥) → times m (without_item n xs) ≡ times m xs → times m (without_item n (x ∷ xs)) ≡ times m (x ∷ xs)
  by_case (inl same) rest =
      ap (λ b. times m (cond (not b) (x ∷ without_item n xs) (without_item n xs))) (eq-eqb x n same) ∙ rest
      ∙ sym (times_front x m xs (λ e. other (e ∙ same)))
  by_case (inr apart) rest =
      ap (λ b. times m (cond (not b) (x ∷ without_item n xs) (without_item n xs))) (ne_eqb x n apart)
      ∙ ap (λ t. cond (x == m) (suc t) t) rest

-- ---- what is held, and in a port

-- message m is held now or not, and all others as they were; what is in a port was there, but m is if it may be
pub record IsMoved (way : Bool) (m : ℕ) (At : ℕ → Type 0) (old new : MessagePorts) : Type 0 where
  pub messages : shape new.messages ≡ shape old.messages
  pub ports : new.ports ≡ old.ports
  pub here : is_held m new ≡ way
  pub rest : (n : ℕ) → n ≢ m → is_held n new ≡ is_held n old
  pub queued : (n p : ℕ) → home new.places n ≡ Some p → (home old.places n ≡ Some p) ⊎ ((n ≡ m) × At p)

module _ (m : ℕ) (At : ℕ → Type 0) (s : MessagePorts) where
  pub moved_not : {way : Bool} → is_held m s ≡ way → IsMoved way m At s s
  moved_not is = record { messages = refl; ports = refl; here = is; rest = λ n other. refl; queued = λ n p there. inl there }

  pub moved_held : IsMoved true m At s (ports.held m s)
  moved_held = record {
    messages = refl;
    ports = refl;
    here = ap (nat_lt 0) (times_end_self m s.holding) ∙ lt-ltb 0 (suc (times m s.holding)) (omega arith);
    rest = λ n other. ap (nat_lt 0) (times_end_other m n s.holding other);
    queued = λ n p there. inl there;
  }

  pub moved_let_go : IsMoved false m At s (let_go m s)
  moved_let_go = record {
    messages = refl;
    ports = refl;
    here = ap (nat_lt 0) (times_without_self m s.holding);
    rest = λ n other. ap (nat_lt 0) (times_without_other m n s.holding other);
    queued = λ n p there. inl there;
  }

  -- if it is put
  pub moved_posted : (kind p : ℕ) → IsTrue (is_message m s) → At p → IsMoved false m At s (posted kind p m (let_go m s))
  moved_posted kind p lives may = record {
    messages = shape_written s.messages m (record (ports.message_at m s) { kind = kind }) lives;
    ports = refl;
    here = ap (nat_lt 0) (times_without_self m s.holding);
    rest = λ n other. ap (nat_lt 0) (times_without_other m n s.holding other);
    queued = λ n q there. by_case n q there (cases_eq n m);
  } where
    by_case : (n q : ℕ) → home (slice_set s.places m (Some p)) n ≡ Some q → (n ≡ m) ⊎ (n ≡ m → ⊥) → (home s.places n ≡ Some q) ⊎ ((n ≡ m) × At q)
    by_case n q there (inr other) = inl (sym (slot_other s.places m n (Some p) other) ∙ there)
    by_case n q there (inl same) =
        let known : m < length s.places = omega (arith, same, slot_known (slice_set s.places m (Some p)) n q there, length-set s.places m (Some p)) in
        let is : p ≡ q = some_same (sym (slot_same s.places m (Some p) known) ∙ ap (home (slice_set s.places m (Some p))) (sym same) ∙ there) in
        inr (same, subst At is may)

  -- if it is taken out of its port
  pub moved_out : {way : Bool} → is_held m s ≡ way → IsMoved way m At s (taken_out m s)
  moved_out {way} is = by_home (home s.places m) where
    by_home : (o : Option ℕ) → IsMoved way m At s (left_port m o s)
    by_home None = moved_not is
    by_home (Some p) = record {
      messages = refl;
      ports = refl;
      here = is;
      rest = λ n other. refl;
      queued = λ n q there. inl (left_home s.places m n q there);
    }

-- ---- what waits

-- those that wait, but for one
abbrev waiting_but : ℕ → List Waiting → List Waiting
waiting_but r xs = filter (λ (w : Waiting). not (w.request == r)) xs

-- that one does not wait
left_self : (r : ℕ) (xs : List Waiting) → list_any (λ (w : Waiting). w.request == r) (waiting_but r xs) ≡ false
left_self r [] = refl
left_self r (x ∷ xs) = by_case (x.request == r) refl (left_self r xs) where
  by_case : (b : Bool) → (x.request == r) ≡ b → list_any (λ (w : Waiting). w.request == r) (waiting_but r xs) ≡ false
      → list_any (λ (w : Waiting). w.request == r) (cond (not b) (x ∷ waiting_but r xs) (waiting_but r xs)) ≡ false
  by_case true is rest = rest
  by_case false is rest = ap (λ b. b || list_any (λ (w : Waiting). w.request == r) (waiting_but r xs)) is ∙ rest

-- and all others as they did
left_other : (r k : ℕ) (xs : List Waiting) → k ≢ r
    → list_any (λ (w : Waiting). w.request == k) (waiting_but r xs) ≡ list_any (λ (w : Waiting). w.request == k) xs
left_other r k [] other = refl
left_other r k (x ∷ xs) other = by_case (cases_eq x.request r) (left_other r k xs other) where
  by_case : (x.request ≡ r) ⊎ (x.request ≡ r → ⊥)
      → list_any (λ (w : Waiting). w.request == k) (waiting_but r xs) ≡ list_any (λ (w : Waiting). w.request == k) xs
      → list_any (λ (w : Waiting). w.request == k) (waiting_but r (x ∷ xs)) ≡ list_any (λ (w : Waiting). w.request == k) (x ∷ xs)
  by_case (inl same) rest =
      ap (λ b. list_any (λ (w : Waiting). w.request == k) (cond (not b) (x ∷ waiting_but r xs) (waiting_but r xs))) (eq-eqb x.request r same)
      ∙ rest ∙ sym (ap (λ b. b || list_any (λ (w : Waiting). w.request == k) xs) (ne_eqb x.request k (λ e. other (sym e ∙ same))))
  by_case (inr apart) rest =
      ap (λ b. list_any (λ (w : Waiting). w.request == k) (cond (not b) (x ∷ waiting_but r xs) (waiting_but r xs))) (ne_eqb x.request r apart)
      ∙ ap (λ b. (x.request == k) || b) rest

-- what holds of each that waits
pub waiting_members : (P : Waiting → Type 0) (xs : List Waiting)
    → ((w : Waiting) → list_any (λ (v : Waiting). v.request == w.request) xs ≡ true → P w) → AllByRecursion P xs
waiting_members P [] holds = tt
waiting_members P (x ∷ xs) holds = (
  holds x (or_left (x.request == x.request) (list_any (λ (v : Waiting). v.request == x.request) xs) (eq-eqb x.request x.request refl)),
  waiting_members P xs (λ w stands. holds w (or_right (x.request == w.request) (list_any (λ (v : Waiting). v.request == w.request) xs) stands)),
)

-- Request r waits now or not, and all others as they did; the clock is, and system time stays near it.
pub record IsTimed (way : Bool) (r : ℕ) (old new : Held) : Type 0 where
  pub room : new.room ≡ old.room
  pub here : is_waiting r new.timer ≡ way
  pub rest : (k : ℕ) → k ≢ r → is_waiting k new.timer ≡ is_waiting k old.timer
  pub clock : new.timer.clock ≡ old.timer.clock
  pub near : old.timer.system ≤ old.timer.clock + 2 ^ 53 → new.timer.system ≤ new.timer.clock + 2 ^ 53

module _ (r : ℕ) (m : Held) where
  pub timed_not : {way : Bool} → is_waiting r m.timer ≡ way → IsTimed way r m m
  timed_not is = record { room = refl; here = is; rest = λ k other. refl; clock = refl; near = λ near. near }

  pub timed_begun : (due : Due) → IsTimed true r m (on_timer (begins_to_wait r due) m)
  timed_begun due = record {
    room = refl;
    here = list_any-append (λ (w : Waiting). w.request == r) m.timer.waiting (record { request = r; due = due } ∷ [])
        ∙ ap (λ b. is_waiting r m.timer || (b || false)) (eq-eqb r r refl) ∙ or-true (is_waiting r m.timer);
    rest = λ k other. list_any-append (λ (w : Waiting). w.request == k) m.timer.waiting (record { request = r; due = due } ∷ [])
        ∙ ap (λ b. is_waiting k m.timer || (b || false)) (ne_eqb r k (λ e. other (sym e))) ∙ or-false (is_waiting k m.timer);
    clock = refl;
    near = λ near. near;
  }

  pub timed_ended : IsTimed false r m (on_timer (waits_no_more r) m)
  timed_ended = record {
    room = refl;
    here = left_self r m.timer.waiting;
    rest = λ k other. left_other r k m.timer.waiting other;
    clock = refl;
    near = λ near. near;
  }

  -- if system time is set
  pub timed_set : {way : Bool} (time : ℕ) → is_waiting r m.timer ≡ way → time < 2 ^ 53 → IsTimed way r m (on_timer (system_set time) m)
  timed_set time is small = record { room = refl; here = is; rest = λ k other. refl; clock = refl; near = λ near. omega arith }
