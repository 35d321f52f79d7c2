-- The queues agree with the schedule, whatever is done.
use Rattle.std.proofs.Common.{◌≡◌, ◌≢◌, ℕ, zero, suc, ◌+◌, ◌<◌, ◌≤◌, ℤ, Bool, true, false, List, [], ◌∷◌, ◌++◌, Option, None, Some, length, refl, sym, ap, ◌∙◌, subst, arith, not, ◌&&◌, cond, if◌then◌else◌, nat_eq, replicate, slice_set, get_or-set_same, get_or-set_other}
use Rattle.memlist.proofs.Answered.{nat_eq-same, nat_eq-other, cases_eq}
use Rattle.execlist.specs.{Lists.is_at, Lists.times, Disciplines.pri_at, Disciplines.by_arrival, Order.without_item, Order.chosen, Order.chosen_or, Order.is_lower}
use Rattle.taskq.specs.declared.TaskState.TheVariants.{Absent, Ready, Running, Waiting, Removed}
use Rattle.taskq.specs.{Tasks.state_at, Tasks.is_ready, Tasks.is_live, declared.TaskState.TaskState, declared.Why.TheVariants.Signals, declared.Why.TheVariants.Sem}
use Rattle.scheduler.specs.Schedule.{Schedule, status_of, signals_of, is_absent, is_at_semaphore, awaits, departs, begins, task_removed, renewed, switch_for, takes_over, is_switching_allowed, is_quantum_over, waits_at_semaphore, with_signals}
use Rattle.scheduler.specs.{declared.Switch.TheVariants.To, declared.Switch.TheVariants.Idle, Dispatch.arrives, Dispatch.added, Dispatch.displaced, Dispatch.after_switch, Dispatch.switch_of, Dispatch.rescheduled, Dispatch.signalled, Sound.is_running}
use Rattle.signals.specs.Signals.{after_post}
use Rattle.execmodel.specs.{Agreement.once_if, Agreement.IsInOneQueue, Agreement.Agrees, Queues.Turn, Queues.Came, Queues.Served, Marks.turn_at}
use Rattle.execmodel.proofs.{Heaps.true_is_not_false, Queues.IsAway, Queues.Turns, Queues.Follows}

-- ---- how often a task is in a sequence

once_more : (b : Bool) (n : ℕ) → (if b then suc n else n) ≡ n + once_if b
once_more true n = omega arith
once_more false n = omega arith

cons_times : (b : Bool) (m n k : ℕ) → m ≡ n + k → (if b then suc m else m) ≡ (if b then suc n else n) + k
cons_times true m n k e = omega (arith, e)
cons_times false m n k e = e

-- one who is last
pub times_last : (t k : ℕ) (q : List ℕ) → times t (q ++ k ∷ []) ≡ times t q + once_if (nat_eq k t)
times_last t k [] = once_more (nat_eq k t) 0
times_last t k (x ∷ q) = cons_times (nat_eq x t) (times t (q ++ k ∷ [])) (times t q) (once_if (nat_eq k t)) (times_last t k q)

times_cond : (t x : ℕ) (b : Bool) (q : List ℕ) → times t (cond b (x ∷ q) q) ≡ (if b then times t (x ∷ q) else times t q)
times_cond t x true q = refl
times_cond t x false q = refl

-- who leaves is there no more
pub times_gone : (t : ℕ) (q : List ℕ) → times t (without_item t q) ≡ 0
times_gone t [] = refl
times_gone t (x ∷ q) =
    times_cond t x (not (nat_eq x t)) (without_item t q)
    ∙ cases_eq t x
    (λ same. ap (λ b. if not b then times t (x ∷ without_item t q) else times t (without_item t q)) (ap (λ k. nat_eq x k) same ∙ nat_eq-same x)
    ∙ times_gone t q)
    (λ apart. ap (λ b. if not b then times t (x ∷ without_item t q) else times t (without_item t q)) (nat_eq-other x t (λ e. apart (sym e)))
    ∙ ap (λ b. if b then suc (times t (without_item t q)) else times t (without_item t q)) (nat_eq-other x t (λ e. apart (sym e))) ∙ times_gone t q)

-- and the others are there as before
pub times_others : (t k : ℕ) (q : List ℕ) → t ≢ k → times t (without_item k q) ≡ times t q
times_others t k [] apart = refl
times_others t k (x ∷ q) apart =
    times_cond t x (not (nat_eq x k)) (without_item k q)
    ∙ cases_eq x k
    (λ same. ap (λ b. if not b then times t (x ∷ without_item k q) else times t (without_item k q)) (ap (λ j. nat_eq j k) same ∙ nat_eq-same k)
    ∙ times_others t k q apart
    ∙ sym (ap (λ b. if b then suc (times t q) else times t q) (nat_eq-other x t (λ e. apart (sym e ∙ same)))))
    (λ other. ap (λ b. if not b then times t (x ∷ without_item k q) else times t (without_item k q)) (nat_eq-other x k other)
    ∙ ap (λ n. if nat_eq x t then suc n else n) (times_others t k q apart))

-- one who is nowhere in a sequence is away from it
pub never_away : (t : ℕ) (q : List ℕ) → times t q ≡ 0 → IsAway t q
never_away t [] e = tt
never_away t (x ∷ q) e =
    cases_eq t x
    (λ same. let more = ap (λ b. if b then suc (times t q) else times t q) (sym (ap (λ k. nat_eq k t) (sym same) ∙ nat_eq-same t)) ∙ e in
    absurd (omega (arith, more)))
    (λ apart. (
      apart,
      never_away t q (ap (λ b. if b then suc (times t q) else times t q) (sym (nat_eq-other x t (λ e. apart (sym e)))) ∙ e),
    ))

-- ---- the states of tasks

pub set_here : (states : List TaskState) (k : ℕ) (x : TaskState) → k < length states → state_at (slice_set states k x) k ≡ x
set_here states k x h = get_or-set_same states k x Absent h

pub set_there : (states : List TaskState) (k j : ℕ) (x : TaskState) → j ≢ k → state_at (slice_set states k x) j ≡ state_at states j
set_there states k j x apart = get_or-set_other states k j x Absent apart

-- what is neither absent nor of no number is one of that many
pub in_range : (states : List TaskState) (k : ℕ) → is_absent (state_at states k) ≡ false → k < length states
in_range [] k e = true_is_not_false e
in_range (x ∷ states) zero e = omega arith
in_range (x ∷ states) (suc k) e = let less = in_range states k e in omega (arith, less)

-- what neither a state nor an absent task does, a task that gets the state does not
pub set_state : (states : List TaskState) (k : ℕ) (x : TaskState) (test : TaskState → Bool) → test x ≡ false → test Absent ≡ false
    → test (state_at (slice_set states k x) k) ≡ false
set_state [] k x test new absent = absent
set_state (y ∷ states) zero x test new absent = new
set_state (y ∷ states) (suc k) x test new absent = set_state states k x test new absent

-- before any task is added
pub all_absent : (n t : ℕ) → state_at (replicate n Absent) t ≡ Absent
all_absent zero t = refl
all_absent (suc n) zero = refl
all_absent (suc n) (suc t) = all_absent n t

-- ---- tasks that are left alone

-- all tasks agree
abbrev pub AllAgree : Schedule → (ℕ → List ℕ) → Type 0
AllAgree s waiters = (t : ℕ) → Agrees t s waiters

stands_same : (test : Bool) (t : ℕ) (q p : ℕ → List ℕ) → ((a : ℕ) → times t (p a) ≡ times t (q a)) → IsInOneQueue test t q → IsInOneQueue test t p
stands_same true t q p e stands = (stands.0, λ other. e other ∙ stands.1 other)
stands_same false t q p e stands = λ other. e other ∙ stands other

-- a task that is where it was agrees still
pub untouched : (t : ℕ) (s r : Schedule) (q p : ℕ → List ℕ) → status_of r t ≡ status_of s t → is_at r.running t ≡ is_at s.running t
    → times t r.queue.ready ≡ times t s.queue.ready → ((a : ℕ) → times t (p a) ≡ times t (q a)) → Agrees t s q → Agrees t r p
untouched t s r q p status running ready queues old = record {
  runs = running ∙ old.runs ∙ sym (ap is_running status);
  ready = ready ∙ old.ready ∙ sym (ap (λ x. once_if (is_ready x)) status);
  waits = subst (λ x. IsInOneQueue (is_at_semaphore x) t p) (sym status) (stands_same (is_at_semaphore (status_of s t)) t q p queues old.waits);
}

-- a task of a known state
stands : (t : ℕ) (s : Schedule) (q : ℕ → List ℕ) (x : TaskState) → status_of s t ≡ x → is_at s.running t ≡ is_running x
    → times t s.queue.ready ≡ once_if (is_ready x) → IsInOneQueue (is_at_semaphore x) t q → Agrees t s q
stands t s q x status running ready queues = record {
  runs = running ∙ sym (ap is_running status);
  ready = ready ∙ sym (ap (λ y. once_if (is_ready y)) status);
  waits = subst (λ y. IsInOneQueue (is_at_semaphore y) t q) (sym status) queues;
}

-- ---- what a known state reports

ready_is : (x : TaskState) → is_ready x ≡ true → x ≡ Ready
ready_is Ready e = refl
ready_is _ e = true_is_not_false (sym e)

running_is : (x : TaskState) → is_running x ≡ true → x ≡ Running
running_is Running e = refl
running_is _ e = true_is_not_false (sym e)

absent_is : (x : TaskState) → is_absent x ≡ true → x ≡ Absent
absent_is Absent e = refl
absent_is _ e = true_is_not_false (sym e)

pub at_semaphore_is : (x : TaskState) → is_at_semaphore x ≡ true → x ≡ Waiting Sem
at_semaphore_is (Waiting (Signals mask)) e = true_is_not_false (sym e)
at_semaphore_is (Waiting Sem) e = refl
at_semaphore_is _ e = true_is_not_false (sym e)

-- for which of what comes a task waits
pub awaiting_is : (x : TaskState) (received : ℕ) → awaits x received ≡ true → (mask : ℕ) × (x ≡ Waiting (Signals mask))
awaiting_is Absent received e = true_is_not_false (sym e)
awaiting_is (Waiting (Signals mask)) received e = (mask, refl)
awaiting_is _ received e = true_is_not_false (sym e)

runs_at : (t : ℕ) (s : Schedule) (q : ℕ → List ℕ) (x : TaskState) → status_of s t ≡ x → Agrees t s q → is_at s.running t ≡ is_running x
runs_at t s q x status old = old.runs ∙ ap is_running status

ready_at : (t : ℕ) (s : Schedule) (q : ℕ → List ℕ) (x : TaskState) → status_of s t ≡ x → Agrees t s q
    → times t s.queue.ready ≡ once_if (is_ready x)
ready_at t s q x status old = old.ready ∙ ap (λ y. once_if (is_ready y)) status

pub waits_at : (t : ℕ) (s : Schedule) (q : ℕ → List ℕ) (x : TaskState) → status_of s t ≡ x → Agrees t s q → IsInOneQueue (is_at_semaphore x) t q
waits_at t s q x status old = subst (λ y. IsInOneQueue (is_at_semaphore y) t q) status old.waits

-- the running task has the state Running
pub running_state : (t : ℕ) (s : Schedule) (q : ℕ → List ℕ) → s.running ≡ Some t → Agrees t s q → status_of s t ≡ Running
running_state t s q runs old =
    running_is (status_of s t) (sym old.runs ∙ ap (λ o. is_at o t) runs ∙ nat_eq-same t)

range_of : (t : ℕ) (s : Schedule) (x : TaskState) → status_of s t ≡ x → is_absent x ≡ false → t < length s.queue.states
range_of t s x status e = in_range s.queue.states t (ap is_absent status ∙ e)

-- no other task runs
not_running : (t j : ℕ) (s : Schedule) → s.running ≡ Some t → j ≢ t → is_at s.running j ≡ false
not_running t j s runs apart = ap (λ o. is_at o j) runs ∙ nat_eq-other t j (λ e. apart (sym e))

-- ---- nothing of it changes

pub alike_agrees : (s r : Schedule) (q p : ℕ → List ℕ) → r.queue.states ≡ s.queue.states → r.queue.ready ≡ s.queue.ready
    → r.running ≡ s.running → ((a : ℕ) → p a ≡ q a) → AllAgree s q → AllAgree r p
alike_agrees s r q p states ready running queues old t =
    untouched t s r q p (ap (λ x. state_at x t) states) (ap (λ o. is_at o t) running) (ap (λ x. times t x) ready) (λ a. ap (λ x. times t x) (queues a)) (old t)

-- ---- a task becomes ready

one_time : (t : ℕ) (q : List ℕ) → times t q ≡ 0 → times t (q ++ t ∷ []) ≡ 1
one_time t q e = times_last t t q ∙ ap (λ n. n + once_if (nat_eq t t)) e ∙ ap (λ b. 0 + once_if b) (nat_eq-same t)

no_more : (t k : ℕ) (q : List ℕ) → t ≢ k → times t (q ++ k ∷ []) ≡ times t q
no_more t k q apart =
    let last = times_last t k q ∙ ap (λ b. times t q + once_if b) (nat_eq-other k t (λ e. apart (sym e))) in omega (arith, last)

-- a task that neither runs nor is ready, and is in no queue any more
pub arrives_agrees : (k : ℕ) (s : Schedule) (q p : ℕ → List ℕ) (x : TaskState) → status_of s k ≡ x → k < length s.queue.states
    → is_running x ≡ false → is_ready x ≡ false → IsInOneQueue false k p → ((j a : ℕ) → j ≢ k → times j (p a) ≡ times j (q a))
    → AllAgree s q → AllAgree (arrives by_arrival k s) p
unfolding arrives
arrives_agrees k s q p x status range idle unready none others old t =
    cases_eq t k
    (λ here. subst (λ j. Agrees j (arrives by_arrival k s) p) (sym here)
    (stands k (arrives by_arrival k s) p Ready (set_here s.queue.states k Ready range) (runs_at k s q x status (old k) ∙ idle)
    (one_time k s.queue.ready (ready_at k s q x status (old k) ∙ ap once_if unready)) none))
    (λ apart. untouched t s (arrives by_arrival k s) q p (set_there s.queue.states k t Ready apart) refl (no_more t k s.queue.ready apart)
    (λ a. others t a apart) (old t))

-- a ready task that arrives anew
pub rearrives_agrees : (k : ℕ) (s : Schedule) (q : ℕ → List ℕ) → is_ready (status_of s k) ≡ true → AllAgree s q
    → AllAgree (arrives by_arrival k (departs k s)) q
unfolding arrives
rearrives_agrees k s q e old t =
    let status = ready_is (status_of s k) e in
    cases_eq t k
    (λ here. subst (λ j. Agrees j (arrives by_arrival k (departs k s)) q) (sym here)
    (stands k (arrives by_arrival k (departs k s)) q Ready (set_here s.queue.states k Ready (range_of k s Ready status refl)) (runs_at k s q Ready status (old k))
    (one_time k (without_item k s.queue.ready) (times_gone k s.queue.ready)) (waits_at k s q Ready status (old k))))
    (λ apart. untouched t s (arrives by_arrival k (departs k s)) q q (set_there s.queue.states k t Ready apart) refl
    (no_more t k (without_item k s.queue.ready) apart ∙ times_others t k s.queue.ready apart) (λ a. refl) (old t))

-- a task that was not added yet is nowhere
pub absent_agrees : (t : ℕ) (s : Schedule) (q : ℕ → List ℕ) → status_of s t ≡ Absent → s.running ≡ None → s.queue.ready ≡ [] → ((a : ℕ) → times t (q a) ≡ 0)
    → Agrees t s q
absent_agrees t s q status none unready nowhere = stands t s q Absent status (ap (λ o. is_at o t) none) (ap (λ l. times t l) unready) nowhere

-- ---- the running task stops running

pub stops_agrees : (t : ℕ) (x : TaskState) (s r : Schedule) (q p : ℕ → List ℕ) → s.running ≡ Some t
    → r.queue.states ≡ slice_set s.queue.states t x → r.queue.ready ≡ s.queue.ready → r.running ≡ None → is_running x ≡ false → is_ready x ≡ false
    → IsInOneQueue (is_at_semaphore x) t p → ((j a : ℕ) → j ≢ t → times j (p a) ≡ times j (q a)) → AllAgree s q → AllAgree r p
stops_agrees t x s r q p runs states ready none idle unready queues others old j =
    let status = running_state t s q runs (old t) in
    cases_eq j t
    (λ here. subst (λ k. Agrees k r p) (sym here)
    (stands t r p x (ap (λ l. state_at l t) states ∙ set_here s.queue.states t x (range_of t s Running status refl))
    (ap (λ o. is_at o t) none ∙ sym idle)
    (ap (λ l. times t l) ready ∙ ready_at t s q Running status (old t) ∙ sym (ap once_if unready)) queues))
    (λ apart. untouched j s r q p (ap (λ l. state_at l j) states ∙ set_there s.queue.states t j x apart)
    (ap (λ o. is_at o j) none ∙ sym (not_running t j s runs apart)) (ap (λ l. times j l) ready) (λ a. others j a apart) (old j))

-- the running task is displaced, and none runs yet
displaced_agrees : (r : ℕ) (s : Schedule) (q : ℕ → List ℕ) → s.running ≡ Some r → AllAgree s q → AllAgree (arrives by_arrival r (record s { running = None })) q
unfolding arrives
displaced_agrees r s q runs old j =
    let status = running_state r s q runs (old r) in
    let next = arrives by_arrival r (record s { running = None }) in
    cases_eq j r
    (λ here. subst (λ k. Agrees k next q) (sym here)
    (stands r next q Ready (set_here s.queue.states r Ready (range_of r s Running status refl)) refl
    (one_time r s.queue.ready (ready_at r s q Running status (old r))) (waits_at r s q Running status (old r))))
    (λ apart. untouched j s next q q (set_there s.queue.states r j Ready apart) (sym (not_running r j s runs apart)) (no_more j r s.queue.ready apart)
    (λ a. refl) (old j))

-- ---- a ready task begins to run

begins_agrees : (t : ℕ) (s : Schedule) (q : ℕ → List ℕ) → s.running ≡ None → is_ready (status_of s t) ≡ true → AllAgree s q → AllAgree (begins t s) q
unfolding begins
begins_agrees t s q none e old j =
    let status = ready_is (status_of s t) e in
    cases_eq j t
    (λ here. subst (λ k. Agrees k (begins t s) q) (sym here)
    (stands t (begins t s) q Running (set_here s.queue.states t Running (range_of t s Ready status refl)) (nat_eq-same t)
    (times_gone t s.queue.ready) (waits_at t s q Ready status (old t))))
    (λ apart. untouched j s (begins t s) q q (set_there s.queue.states t j Running apart)
    (nat_eq-other t j (λ e. apart (sym e)) ∙ sym (ap (λ o. is_at o j) none)) (times_others j t s.queue.ready apart) (λ a. refl) (old j))

stands_there : (b : Bool) (n : ℕ) → n ≡ once_if b → 0 < n → b ≡ true
stands_there true n e h = refl
stands_there false n e h = absurd (omega (arith, e, h))

-- who is chosen is there
pub first_stands : (t x : ℕ) (q : List ℕ) → x ≡ t → 0 < times t (x ∷ q)
first_stands t x q same = subst (λ b. 0 < (if b then suc (times t q) else times t q)) (sym (ap (λ k. nat_eq k t) same ∙ nat_eq-same t)) (omega arith)

pub later_stands : (t x : ℕ) (q : List ℕ) → 0 < times t q → 0 < times t (x ∷ q)
later_stands t x q h = either (nat_eq x t)
  where
    either : (b : Bool) → 0 < (if b then suc (times t q) else times t q)
    either true = omega arith
    either false = h

pub some_same : {x y : ℕ} → Some x ≡ Some y → x ≡ y
some_same {x} {y} e = cc

either_stands : (key : ℕ → ℤ) (x y t : ℕ) (xs : List ℕ) (b : Bool) → (y ≡ t → 0 < times t xs) → (if b then Some y else Some x) ≡ Some t
    → 0 < times t (x ∷ xs)
either_stands key x y t xs true later e = later_stands t x xs (later (some_same e))
either_stands key x y t xs false later e = first_stands t x xs (some_same e)

one_stands : (key : ℕ → ℤ) (x t : ℕ) (xs : List ℕ) (o : Option ℕ) → (o ≡ Some t → 0 < times t xs) → chosen_or key x o ≡ Some t
    → 0 < times t (x ∷ xs)
one_stands key x t xs None later e = first_stands t x xs (some_same e)
one_stands key x t xs (Some y) later e = either_stands key x y t xs (is_lower key x y) (λ same. later (ap (λ k. Some k) same)) e

chosen_stands : (key : ℕ → ℤ) (xs : List ℕ) (t : ℕ) → chosen key xs ≡ Some t → 0 < times t xs
chosen_stands key [] t e = let bad : None ≡ Some t = e in cc
chosen_stands key (x ∷ xs) t e = one_stands key x t xs (chosen key xs) (chosen_stands key xs t) e

to_agrees : (running : Option ℕ) (t : ℕ) (s : Schedule) (q : ℕ → List ℕ) → s.running ≡ running → 0 < times t s.queue.ready → AllAgree s q
    → AllAgree (begins t (displaced by_arrival running s)) q
unfolding arrives begins
to_agrees None t s q none h old =
    begins_agrees t s q none (stands_there (is_ready (status_of s t)) (times t s.queue.ready) (old t).ready h) old
to_agrees (Some r) t s q runs h old =
    let next = arrives by_arrival r (record s { running = None }) in
    let agree = displaced_agrees r s q runs old in
    let more = times_last t r s.queue.ready in
    begins_agrees t next q refl
    (stands_there (is_ready (status_of next t)) (times t next.queue.ready) (agree t).ready (omega (arith, more, h))) agree

renewed_agrees : (o : Option ℕ) (s : Schedule) (q : ℕ → List ℕ) → AllAgree s q → AllAgree (renewed o s) q
renewed_agrees None s q old = old
renewed_agrees (Some r) s q old = either (is_switching_allowed (Some r) s && is_quantum_over s)
  where
    either : (b : Bool) → AllAgree (if b then record s { left = s.quantum } else s) q
    either true = alike_agrees s (record s { left = s.quantum }) q q refl refl refl (λ a. refl) old
    either false = old

idle_agrees : (b : Bool) (s : Schedule) (q : ℕ → List ℕ) → AllAgree s q → AllAgree (after_switch by_arrival (if b then None else Some Idle) s) q
idle_agrees true s q old = renewed_agrees s.running s q old
idle_agrees false s q old = alike_agrees s (record s { idle = true }) q q refl refl refl (λ a. refl) old

tested_agrees : (b : Bool) (t : ℕ) (s : Schedule) (q : ℕ → List ℕ) → 0 < times t s.queue.ready → AllAgree s q
    → AllAgree (after_switch by_arrival (if b then Some (To t) else None) s) q
tested_agrees true t s q h old = to_agrees s.running t s q refl h old
tested_agrees false t s q h old = renewed_agrees s.running s q old

switched_agrees : (running choice : Option ℕ) (s : Schedule) (q : ℕ → List ℕ) → chosen (pri_at s.queue.pris) s.queue.ready ≡ choice → AllAgree s q
    → AllAgree (after_switch by_arrival (switch_for running choice s) s) q
switched_agrees None None s q e old = idle_agrees s.idle s q old
switched_agrees None (Some t) s q e old = tested_agrees true t s q (chosen_stands (pri_at s.queue.pris) s.queue.ready t e) old
switched_agrees (Some r) None s q e old = renewed_agrees s.running s q old
switched_agrees (Some r) (Some t) s q e old =
    tested_agrees (is_switching_allowed (Some r) s && takes_over t r s) t s q (chosen_stands (pri_at s.queue.pris) s.queue.ready t e) old

pub rescheduled_agrees : (s : Schedule) (q : ℕ → List ℕ) → AllAgree s q → AllAgree (rescheduled by_arrival s) q
unfolding rescheduled switch_of
rescheduled_agrees s q old = switched_agrees s.running (chosen (pri_at s.queue.pris) s.queue.ready) s q refl old

-- ---- tasks that are added, signalled, removed

pub added_agrees : (k : ℕ) (s : Schedule) (q : ℕ → List ℕ) → k < length s.queue.states → AllAgree s q → AllAgree (added by_arrival k s) q
unfolding added
added_agrees k s q range old = either (is_absent (status_of s k)) refl
  where
    either : (b : Bool) → is_absent (status_of s k) ≡ b → AllAgree (if b then arrives by_arrival k s else s) q
    either true e =
        let status = absent_is (status_of s k) e in
        arrives_agrees k s q q Absent status range refl refl (waits_at k s q Absent status (old k)) (λ j a apart. refl) old
    either false e = old

-- the signals of a mask join what a task has received
abbrev pub got : ℕ → ℕ → Schedule → Schedule
got k mask s = with_signals k (after_post mask (signals_of s k)) s

pub signalled_agrees : (k mask : ℕ) (s : Schedule) (q : ℕ → List ℕ) → AllAgree s q → AllAgree (signalled by_arrival k mask s) q
unfolding signalled
signalled_agrees k mask s q old = live (is_live (status_of s k))
  where
    agree : AllAgree (got k mask s) q
    agree = alike_agrees s (got k mask s) q q refl refl refl (λ a. refl) old

    come : (b : Bool) → awaits (status_of s k) (signals_of (got k mask s) k).received ≡ b
        → AllAgree (if b then arrives by_arrival k (got k mask s) else got k mask s) q
    come true e =
        let is = awaiting_is (status_of s k) (signals_of (got k mask s) k).received e in
        arrives_agrees k (got k mask s) q q (Waiting (Signals is.0)) is.1 (range_of k s (Waiting (Signals is.0)) is.1 refl) refl refl
        (waits_at k s q (Waiting (Signals is.0)) is.1 (old k)) (λ j a apart. refl) agree
    come false e = agree

    live : (b : Bool)
        → AllAgree (if not b then s
        else (if awaits (status_of s k) (signals_of (got k mask s) k).received then arrives by_arrival k (got k mask s) else got k mask s)) q
    live true = come (awaits (status_of s k) (signals_of (got k mask s) k).received) refl
    live false = old

pub removed_agrees : (k t : ℕ) (s : Schedule) (q p : ℕ → List ℕ) → s.running ≡ Some t → k ≢ t → ((a : ℕ) → p a ≡ without_item k (q a))
    → AllAgree s q → AllAgree (task_removed k s) p
unfolding task_removed
removed_agrees k t s q p runs apart queues old j =
    cases_eq j k
    (λ here. subst (λ i. Agrees i (task_removed k s) p) (sym here) (record {
      runs = not_running t k s runs apart ∙ sym (set_state s.queue.states k Removed is_running refl refl);
      ready = times_gone k s.queue.ready ∙ sym (ap once_if (set_state s.queue.states k Removed is_ready refl refl));
      waits = subst (λ b. IsInOneQueue b k p) (sym (set_state s.queue.states k Removed is_at_semaphore refl refl))
          (λ a. ap (λ l. times k l) (queues a) ∙ times_gone k (q a));
    }))
    (λ other. untouched j s (task_removed k s) q p (set_there s.queue.states k j Removed other) refl (times_others j k s.queue.ready other)
    (λ a. ap (λ l. times j l) (queues a) ∙ times_others j k (q a) other) (old j))

-- ---- the queue of a semaphore

-- a turn at an address makes what it makes of the queue there, and of no other
pub here_turn : (a semaphore : ℕ) (turn : Turn) (old new : List ℕ) → a ≡ semaphore → Follows old (turn_at a semaphore turn ++ []) new
    → Turns turn old new
here_turn a semaphore turn old new same follows =
    let one : Follows old (turn ∷ []) new =
    subst (λ b. Follows old ((if b then turn ∷ [] else []) ++ []) new) (ap (λ k. nat_eq k semaphore) same ∙ nat_eq-same semaphore) follows in
    subst (λ q. Turns turn old q) (sym one.2) one.1

pub there_turn : (a semaphore : ℕ) (turn : Turn) (old new : List ℕ) → a ≢ semaphore → Follows old (turn_at a semaphore turn ++ []) new → new ≡ old
there_turn a semaphore turn old new apart follows =
    subst (λ b. Follows old ((if b then turn ∷ [] else []) ++ []) new) (nat_eq-other a semaphore apart) follows

-- the running task waits for a semaphore
pub asks_agrees : (semaphore t : ℕ) (s : Schedule) (q p : ℕ → List ℕ) → s.running ≡ Some t
    → ((a : ℕ) → Follows (q a) (turn_at a semaphore (Came t) ++ []) (p a)) → AllAgree s q → AllAgree (waits_at_semaphore t s) p
unfolding waits_at_semaphore
asks_agrees semaphore t s q p runs follows old =
    let nowhere = waits_at t s q Running (running_state t s q runs (old t)) (old t) in
    let here = λ (a : ℕ) (same : a ≡ semaphore). (here_turn a semaphore (Came t) (q a) (p a) same (follows a)).1 in
    let there = λ (a : ℕ) (apart : a ≢ semaphore). there_turn a semaphore (Came t) (q a) (p a) apart (follows a) in
    stops_agrees t (Waiting Sem) s (waits_at_semaphore t s) q p runs refl refl refl refl refl (
      semaphore,
      λ a. cases_eq a semaphore
          (λ same. ap (λ l. times t l) (here a same) ∙ one_time t (q a) (nowhere a)
          ∙ sym (ap once_if (ap (λ k. nat_eq k semaphore) same ∙ nat_eq-same semaphore)))
          (λ apart. ap (λ l. times t l) (there a apart) ∙ nowhere a ∙ sym (ap once_if (nat_eq-other a semaphore apart))),
    )
    (λ j a apart. cases_eq a semaphore (λ same. ap (λ l. times j l) (here a same) ∙ no_more j t (q a) apart)
    (λ other. ap (λ l. times j l) (there a other))) old

-- one who is in a queue waits for a semaphore, that one
pub waits_there : (b : Bool) (t : ℕ) (q : ℕ → List ℕ) (a : ℕ) → IsInOneQueue b t q → 0 < times t (q a) → b ≡ true
waits_there true t q a one h = refl
waits_there false t q a one h = let none = one a in absurd (omega (arith, none, h))

-- and is in no other
pub only_there : (b : Bool) (t : ℕ) (q : ℕ → List ℕ) (a : ℕ) → IsInOneQueue b t q → 0 < times t (q a) → (c : ℕ) → c ≢ a → times t (q c) ≡ 0
only_there true t q a one h c apart =
    cases_eq a one.0
    (λ same. one.1 c ∙ ap once_if (nat_eq-other c one.0 (λ e. apart (e ∙ sym same))))
    (λ other. let none = one.1 a ∙ ap once_if (nat_eq-other a one.0 other) in absurd (omega (arith, none, h)))
only_there false t q a one h c apart = one c

pub once_there : (b : Bool) (t : ℕ) (q : ℕ → List ℕ) (a : ℕ) → IsInOneQueue b t q → times t (q a) ≤ 1
once_there true t q a one = subst (λ n. n ≤ 1) (sym (one.1 a)) (at_most (nat_eq a one.0))
  where
    at_most : (b : Bool) → once_if b ≤ 1
    at_most true = omega arith
    at_most false = omega arith
once_there false t q a one = let none = one a in omega (arith, none)

-- the first of the tasks that wait is made the owner, and ready
pub wakes_agrees : (semaphore owner : ℕ) (s : Schedule) (q p : ℕ → List ℕ)
    → ((a : ℕ) → Follows (q a) (turn_at a semaphore (Served owner) ++ []) (p a)) → AllAgree s q → AllAgree (arrives by_arrival owner s) p
wakes_agrees semaphore owner s q p follows old =
    let status = at_semaphore_is (status_of s owner) (waits_there (is_at_semaphore (status_of s owner)) owner q semaphore (old owner).waits first) in
    arrives_agrees owner s q p (Waiting Sem) status (range_of owner s (Waiting Sem) status refl) refl refl none others old
  where
    here : (a : ℕ) → a ≡ semaphore → q a ≡ owner ∷ p a
    here a same = here_turn a semaphore (Served owner) (q a) (p a) same (follows a)

    there : (a : ℕ) → a ≢ semaphore → p a ≡ q a
    there a apart = there_turn a semaphore (Served owner) (q a) (p a) apart (follows a)

    first : 0 < times owner (q semaphore)
    first = subst (λ l. 0 < times owner l) (sym (here semaphore refl)) (first_stands owner owner (p semaphore) refl)

    own_times : (a : ℕ) → a ≡ semaphore → times owner (q a) ≡ suc (times owner (p a))
    own_times a same =
        ap (λ l. times owner l) (here a same) ∙ ap (λ b. if b then suc (times owner (p a)) else times owner (p a)) (nat_eq-same owner)

    none : (a : ℕ) → times owner (p a) ≡ 0
    none a =
        cases_eq a semaphore
        (λ same. let most = once_there (is_at_semaphore (status_of s owner)) owner q a (old owner).waits in
        let more = own_times a same in omega (arith, most, more))
        (λ apart. ap (λ l. times owner l) (there a apart)
        ∙ only_there (is_at_semaphore (status_of s owner)) owner q semaphore (old owner).waits first a apart)

    others : (j a : ℕ) → j ≢ owner → times j (p a) ≡ times j (q a)
    others j a apart =
        cases_eq a semaphore
        (λ same. sym (ap (λ l. times j l) (here a same)
        ∙ ap (λ b. if b then suc (times j (p a)) else times j (p a)) (nat_eq-other owner j (λ e. apart (sym e)))))
        (λ other. ap (λ l. times j l) (there a other))
