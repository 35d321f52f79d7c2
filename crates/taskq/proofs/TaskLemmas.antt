-- Where tasks are, and what their priorities are, after one of them has changed.
use Rattle.std.proofs.Common.{◌≡◌, ℕ, ◌<◌, ◌≤◌, ◌+◌, zero, suc, Bool, true, false, cond, List, [], ◌∷◌, ◌++◌, Option, Some, None, IfSome, map, take, length, replicate, slice_set, slice_index_or, refl, sym, ap, ◌∙◌, arith, ℤ, pos, find, length-set, set-set, get_or-set_same}
use Rattle.std.specs.List.{range_with_len}
use Rattle.std.proofs.lemmas.{Bool.cond-true, Bool.cond-false, List.length-map, List.map-set, List.set-get_or, List.get_or_read, List.take_more, List.take_more_set, List.get_or_past}
use Rattle.execlist.specs.{Order.enqueue, Order.without_item, Lists.KeyData, Lists.pri_of, Lists.times, Lists.sequence, Lists.is_at, Disciplines.pri_at}
use Rattle.taskq.specs.declared.TaskState.TheVariants.{Absent, Ready, Running, Waiting, Removed}
use Rattle.taskq.specs.{declared.TaskState.TaskState, Tasks.home_for, Tasks.state_at, Tasks.pris_of, Tasks.is_ready, Tasks.is_live}
use Rattle.execlist.proofs.PlainLemmas.{mapped_replicate, without_fresh}
use Rattle.std.proofs.Math.Path.{fun_ext}

-- Homes.

pub homes_written : (states : List TaskState) (t : ℕ) (v : TaskState) → map home_for (slice_set states t v) ≡ slice_set (map home_for states) t (home_for v)
homes_written states t v = map-set home_for states t v

-- writing what is there changes nothing
pub written_same : (homes : List (Option ℕ)) (t : ℕ) (h : Option ℕ) → slice_index_or homes t None ≡ h → slice_set homes t h ≡ homes
written_same homes t h e = ap (slice_set homes t) (sym e) ∙ set-get_or homes t None

-- the last writing is
pub written_twice : (homes : List (Option ℕ)) (t : ℕ) (g h : Option ℕ) → slice_index_or homes t None ≡ h → slice_set (slice_set homes t g) t h ≡ homes
written_twice homes t g h e = set-set homes t g h ∙ written_same homes t h e

home_of_state : (states : List TaskState) (t : ℕ) → slice_index_or (map home_for states) t None ≡ home_for (state_at states t)
home_of_state [] t = refl
home_of_state (x ∷ xs) zero = refl
home_of_state (x ∷ xs) (suc t) = home_of_state xs t

pub home_from_state : (states : List TaskState) (t : ℕ) (v : TaskState) → state_at states t ≡ v → slice_index_or (map home_for states) t None ≡ home_for v
home_from_state states t v e = home_of_state states t ∙ ap home_for e

-- there is no task past the last
pub home_beyond : (states : List TaskState) (t : ℕ) → length states ≤ t → slice_index_or (map home_for states) t None ≡ None
home_beyond states t far = get_or_past (map home_for states) t None (omega (arith, far, length-map states home_for))

pub homes_absent : (n : ℕ) → map home_for (replicate n Absent) ≡ replicate n None
homes_absent n = mapped_replicate home_for n Absent None refl

pub headers_kept : (all : List (List ℕ)) (h : ℕ) (xs : List ℕ) → length (slice_set all h xs) ≡ length all
headers_kept all h xs = length-set all h xs

pub states_kept : (states : List TaskState) (t : ℕ) (v : TaskState) → length (slice_set states t v) ≡ length states
states_kept states t v = length-set states t v

-- Priorities.

pri_of_key : (keys : List KeyData) (t : ℕ) → pri_of keys t ≡ pri_at (pris_of keys) t
pri_of_key [] t = refl
pri_of_key (k ∷ ks) zero = refl
pri_of_key (k ∷ ks) (suc t) = pri_of_key ks t

-- the priorities are those of the keys, as functions of the task
pub pris_are : (keys : List KeyData) → pri_of keys ≡ pri_at (pris_of keys)
pris_are keys = fun_ext (pri_of_key keys)

pub enqueue_by_pris : (keys : List KeyData) (xs : List ℕ) (t : ℕ) → enqueue (pri_of keys) xs t ≡ enqueue (pri_at (pris_of keys)) xs t
enqueue_by_pris keys xs t = ap (λ key. enqueue key xs t) (pris_are keys)

pub pris_written : (keys : List KeyData) (t : ℕ) (k : KeyData) → pris_of (slice_set keys t k) ≡ slice_set (pris_of keys) t k.pri
pris_written keys t k = map-set (λ x. x.pri) keys t k

-- States.

-- the state that was read
pub state_read : (states : List TaskState) (t : ℕ) (v : TaskState) → t < length states → v ≡ slice_index_or states t v → state_at states t ≡ v
state_read states t v l e = sym (get_or_read states t v l e Absent)

pub is_ready_false : (s : TaskState) → (s ≡ Ready → ⊥) → is_ready s ≡ false
is_ready_false Absent other = refl
is_ready_false Ready other = absurd (other refl)
is_ready_false Running other = refl
is_ready_false (Waiting why) other = refl
is_ready_false Removed other = refl

pub home_for_none : (s : TaskState) → (s ≡ Ready → ⊥) → home_for s ≡ None
home_for_none Absent other = refl
home_for_none Ready other = absurd (other refl)
home_for_none Running other = refl
home_for_none (Waiting why) other = refl
home_for_none Removed other = refl

-- the header of a task whose state was read
pub home_read : (homes : List (Option ℕ)) (states : List TaskState) (t : ℕ) (v : TaskState) → homes ≡ map home_for states → t < length states → v ≡ slice_index_or states t v → slice_index_or homes t None ≡ home_for v
home_read homes states t v same l e = ap (λ o. slice_index_or o t None) same
    ∙ home_from_state states t v (state_read states t v l e)

pub known_live : (states : List TaskState) (t : ℕ) → is_live (state_at states t) ≡ true → t < length states
known_live [] t e = cc
known_live (x ∷ xs) zero e = omega arith
known_live (x ∷ xs) (suc t) e = omega (arith, known_live xs t e)

-- The only sequence.

only_written : (all : List (List ℕ)) (xs : List ℕ) → length all ≡ 1 → sequence (slice_set all 0 xs) 0 ≡ xs
only_written all xs e = get_or-set_same all 0 xs [] (omega arith)

pub arrived : (all new : List (List ℕ)) (keys : List KeyData) (t : ℕ) → length all ≡ 1 → new ≡ slice_set all 0 (enqueue (pri_of keys) (sequence all 0) t) → sequence new 0 ≡ enqueue (pri_at (pris_of keys)) (sequence all 0) t
arrived all new keys t one e = ap (λ l. sequence l 0) e ∙ only_written all (enqueue (pri_of keys) (sequence all 0) t) one
    ∙ enqueue_by_pris keys (sequence all 0) t

pub departed : (all new : List (List ℕ)) (o : Option ℕ) (t : ℕ) → length all ≡ 1 → o ≡ Some 0 → IfSome o (λ h. new ≡ slice_set all h (without_item t (sequence all h))) → sequence new 0 ≡ without_item t (sequence all 0)
departed all new None t one own e = cc
departed all new (Some h) t one own e =
    let here : h ≡ 0 = cc in
    ap (λ l. sequence l 0) (e ∙ ap (λ k. slice_set all k (without_item t (sequence all k))) here)
    ∙ only_written all (without_item t (sequence all 0)) one

pub not_there : (t : ℕ) (xs : List ℕ) (o : Option ℕ) → o ≡ None → times t xs ≡ cond (is_at o 0) 1 0 → xs ≡ without_item t xs
not_there t xs o none law = sym (without_fresh t xs (law ∙ ap (λ k. cond (is_at k 0) 1 0) none))

-- New tasks.

pub pris_set : (keys : List KeyData) (ps : List ℤ) (t : ℕ) (k : KeyData) → t < length keys → t < length ps → take t (pris_of keys) ≡ take t ps → k.pri ≡ slice_index_or ps t (pos 0) → take (t + 1) (pris_of (slice_set keys t k)) ≡ take (t + 1) ps
pris_set keys ps t k lk lp e p =
    ap (take (t + 1)) (pris_written keys t k) ∙ take_more_set (pris_of keys) t k.pri (omega (arith, length-map keys (λ x. x.pri)))
    ∙ ap (λ l. l ++ k.pri ∷ []) e ∙ ap (λ x. take t ps ++ x ∷ []) p ∙ sym (take_more ps t (pos 0) lp)

-- one more of a list is as in another one
pub set_more : {A : Type 0} (xs ys : List A) (t : ℕ) (x d : A) → t < length xs → t < length ys → take t xs ≡ take t ys → x ≡ slice_index_or ys t d → take (t + 1) (slice_set xs t x) ≡ take (t + 1) ys
set_more xs ys t x d lx ly e p =
    take_more_set xs t x lx ∙ ap (λ l. l ++ x ∷ []) e ∙ ap (λ z. take t ys ++ z ∷ []) p ∙ sym (take_more ys t d ly)

-- The first task that passes a test.

find_from : (p : ℕ → Bool) (a n t : ℕ) → t < n → ((k : ℕ) → k < t → p (a + k) ≡ false) → p (a + t) ≡ true → find p (range_with_len a n) ≡ Some (a + t)
find_from p a zero t l before here = absurd (omega arith)
find_from p a (suc n) zero l before here =
    let e : a + 0 ≡ a = omega arith in
    cond-true _ _ _ (ap p (sym e) ∙ here) ∙ ap Some (sym e)
find_from p a (suc n) (suc t) l before here =
    let e : a + 0 ≡ a = omega arith in
    let f : (k : ℕ) → (a + 1) + k ≡ a + suc k = λ k. omega arith in
    cond-false _ _ _ (ap p (sym e) ∙ before 0 (omega arith))
    ∙ find_from p (a + 1) n t (omega arith) (λ k lk. ap p (f k) ∙ before (suc k) (omega arith)) (ap p (f t) ∙ here)
    ∙ ap Some (f t)

find_none_from : (p : ℕ → Bool) (a n : ℕ) → ((k : ℕ) → k < n → p (a + k) ≡ false) → find p (range_with_len a n) ≡ None
find_none_from p a zero none = refl
find_none_from p a (suc n) none =
    let e : a + 0 ≡ a = omega arith in
    let f : (k : ℕ) → (a + 1) + k ≡ a + suc k = λ k. omega arith in
    cond-false _ _ _ (ap p (sym e) ∙ none 0 (omega arith))
    ∙ find_none_from p (a + 1) n (λ k lk. ap p (f k) ∙ none (suc k) (omega arith))

pub found_at : (p : ℕ → Bool) (n t : ℕ) → t < n → ((k : ℕ) → k < t → p k ≡ false) → p t ≡ true → Some t ≡ find p (range_with_len 0 n)
found_at p n t l before here =
    let z : (k : ℕ) → 0 + k ≡ k = λ k. omega arith in
    sym (find_from p 0 n t l (λ k lk. ap p (z k) ∙ before k lk) (ap p (z t) ∙ here) ∙ ap Some (z t))

pub none_found : (p : ℕ → Bool) (n : ℕ) → ((k : ℕ) → k < n → p k ≡ false) → None ≡ find p (range_with_len 0 n)
none_found p n none =
    let z : (k : ℕ) → 0 + k ≡ k = λ k. omega arith in
    sym (find_none_from p 0 n (λ k lk. ap p (z k) ∙ none k lk))

-- What a change of one task leaves, for the calls that need no answer.
pub ruleset changes = (homes_written, written_same, written_twice, home_from_state, homes_absent, headers_kept, states_kept, pris_written, enqueue_by_pris)
