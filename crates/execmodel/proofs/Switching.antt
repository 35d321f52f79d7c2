-- A switch is to the chosen of the ready tasks and of the one that ran until then, which comes last.
use Rattle.std.proofs.Common.{◌≡◌, ℕ, ℤ, Bool, true, false, List, [], ◌∷◌, ◌++◌, Option, None, Some, refl, sym, ap, ◌∙◌, subst, arith, if◌then◌else◌, ◌&&◌, ◌||◌, int_lt, int_le, nat_eq}
use Rattle.std.proofs.lemmas.{Option.none-some, Int.ints}
use Rattle.exectrace.specs.Trace.{TraceLine}
use Rattle.exectrace.specs.Trace as trace
use Rattle.execlist.specs.{Disciplines.pri_at, Disciplines.by_arrival, Order.chosen, Order.chosen_or}
use Rattle.scheduler.specs.Schedule.{Schedule, task_name, priority_of, begins, switch_for, is_switching_allowed, is_quantum_over, takes_over}
use Rattle.scheduler.specs.{declared.Switch.Switch, declared.Switch.TheVariants.To, declared.Switch.TheVariants.Idle, Dispatch.arrives, Dispatch.displaced, Dispatch.after_switch, Dispatch.switch_of, Dispatch.rescheduled}
use Rattle.execmodel.specs.{State.State, State.on_schedule, Step.announced, Step.switches, Laws.SwitchesGoToTheChosen}
use Rattle.execmodel.proofs.{Heaps.true_is_not_false, NoStraysLaw.switches_quiet}
use Rattle.memlist.proofs.Answered.{nat_eq-other, cases_eq}

-- the chosen of two sequences, one after the other, from the chosen of each
abbrev merged : (ℕ → ℤ) → Option ℕ → Option ℕ → Option ℕ
merged key None o = o
merged key (Some x) o = chosen_or key x o

lt_trans : (a b c : ℤ) → int_lt a b ≡ true → int_lt b c ≡ true → int_lt a c ≡ true
lt_trans a b c p q = grind (arith, ints)

le_trans : (a b c : ℤ) → int_lt a b ≡ false → int_lt b c ≡ false → int_lt a c ≡ false
le_trans a b c p q = grind (arith, ints)

tested : (key : ℕ → ℤ) (x z w : ℕ) (a b : Bool) → int_lt (key x) (key z) ≡ a → int_lt (key z) (key w) ≡ b
    → chosen_or key x (if b then Some w else Some z) ≡ merged key (if a then Some z else Some x) (Some w)
tested key x z w true true p q = rw (q, lt_trans (key x) (key z) (key w) p q) refl
tested key x z w true false p q = rw (p, q) refl
tested key x z w false true p q = refl
tested key x z w false false p q = rw (p, le_trans (key x) (key z) (key w) p q) refl

one_more : (key : ℕ → ℤ) (x : ℕ) (o p : Option ℕ) → chosen_or key x (merged key o p) ≡ merged key (chosen_or key x o) p
one_more key x None p = refl
one_more key x (Some z) None = either_some (int_lt (key x) (key z))
  where
    either_some : (a : Bool) → (if a then Some z else Some x) ≡ merged key (if a then Some z else Some x) None
    either_some true = refl
    either_some false = refl
one_more key x (Some z) (Some w) = tested key x z w (int_lt (key x) (key z)) (int_lt (key z) (key w)) refl refl

pub chosen_more : (key : ℕ → ℤ) (xs ys : List ℕ) → chosen key (xs ++ ys) ≡ merged key (chosen key xs) (chosen key ys)
chosen_more key [] ys = refl
chosen_more key (x ∷ xs) ys = ap (chosen_or key x) (chosen_more key xs ys) ∙ one_more key x (chosen key xs) (chosen key ys)

-- ---- the line of a switch

is_switch : List TraceLine → Bool
is_switch (trace.Switch name ∷ rest) = true
is_switch _ = false

name_in_line : List TraceLine → List ℕ
name_in_line (trace.Switch name ∷ rest) = name
name_in_line _ = []

-- a line of a switch is one to a task of that name
toward : (c : Option Switch) (s : State) (name : List ℕ) → (announced c s).lines ≡ trace.Switch name ∷ []
    → (t : ℕ) × (c ≡ Some (To t)) × (name ≡ task_name s.schedule t)
unfolding is_switch name_in_line
toward None s name e = true_is_not_false (sym (ap is_switch e))
toward (Some (To t)) s name e = (t, refl, sym (ap name_in_line e))
toward (Some Idle) s name e = true_is_not_false (sym (ap is_switch e))

displaced_names : (o : Option ℕ) (s : Schedule) (t : ℕ) → task_name (displaced by_arrival o s) t ≡ task_name s t
unfolding arrives
displaced_names None s t = refl
displaced_names (Some r) s t = refl

begun_names : (o : Option ℕ) (t k : ℕ) (s : Schedule) → task_name (begins t (displaced by_arrival o s)) k ≡ task_name s k
unfolding begins
begun_names o t k s = displaced_names o s k

begun_running : (t : ℕ) (s : Schedule) → (begins t s).running ≡ Some t
unfolding begins
begun_running t s = refl

-- ---- who is switched to

to_task : Option Switch → Option ℕ
to_task None = None
to_task (Some (To t)) = Some t
to_task (Some Idle) = None

-- who takes over is not below, so it is the chosen one also among those that come before the running one
taken_over : (p q : ℤ) (over : Bool) → (int_lt p q || (int_le p q && over)) ≡ true → int_lt q p ≡ false
taken_over p q true e = grind (arith, ints)
taken_over p q false e = grind (arith, ints)

second_true : (b c : Bool) → (b && c) ≡ true → c ≡ true
second_true true c e = e
second_true false c e = true_is_not_false (sym e)

tested_to : (b : Bool) (t k : ℕ) → (if b then Some (To t) else None) ≡ Some (To k) → (b ≡ true) × (t ≡ k)
unfolding to_task
tested_to true t k e = (refl, some_is (ap to_task e))
  where
    some_is : {x y : ℕ} → Some x ≡ Some y → x ≡ y
    some_is {x} {y} e = cc
tested_to false t k e = absurd (none-some k (ap to_task e))

idle_to : (b : Bool) (k : ℕ) → (if b then None else Some Idle) ≡ Some (To k) → ⊥
unfolding to_task
idle_to true k e = none-some k (ap to_task e)
idle_to false k e = none-some k (ap to_task e)

nowhere_to : (k : ℕ) → None ≡ Some (To k) → ⊥
unfolding to_task
nowhere_to k e = none-some k (ap to_task e)

elected : (running choice : Option ℕ) (s : Schedule) (t : ℕ) → s.running ≡ running → chosen (pri_at s.queue.pris) s.queue.ready ≡ choice
    → switch_for running choice s ≡ Some (To t)
    → chosen (pri_at s.queue.pris) (s.queue.ready ++ (elim running as (λ x. List ℕ) [ None ↦ [] | Some r ↦ r ∷ [] ])) ≡ Some t
elected None None s t is choice e = absurd (idle_to s.idle t e)
elected None (Some k) s t is choice e =
    chosen_more (pri_at s.queue.pris) s.queue.ready [] ∙ ap (λ o. merged (pri_at s.queue.pris) o None) choice ∙ ap (λ j. Some j) (tested_to true k t e).1
elected (Some r) None s t is choice e = absurd (nowhere_to t e)
elected (Some r) (Some k) s t is choice e =
    let is_to = tested_to (is_switching_allowed (Some r) s && takes_over k r s) k t e in
    chosen_more (pri_at s.queue.pris) s.queue.ready (r ∷ [])
    ∙ ap (λ o. merged (pri_at s.queue.pris) o (Some r)) choice
    ∙ ap (λ b. if b then Some r else Some k)
    (taken_over (priority_of s r) (priority_of s k) (is_quantum_over s) (second_true (is_switching_allowed (Some r) s) (takes_over k r s) is_to.0))
    ∙ ap (λ j. Some j) is_to.1

-- a task that runs leaves for an equal one only if its quantum has ended
equal_over : (p : ℤ) (over : Bool) → (int_lt p p || (int_le p p && over)) ≡ true → over ≡ true
equal_over p true e = refl
equal_over p false e = grind (arith, ints)

none_left : (n : ℕ) → nat_eq n 0 ≡ true → n ≡ 0
none_left n e = cases_eq n 0 (λ same. same) (λ apart. true_is_not_false (sym e ∙ nat_eq-other n 0 apart))

over_for : (running choice : Option ℕ) (s : Schedule) (t r : ℕ) → s.running ≡ running → s.running ≡ Some r
    → switch_for running choice s ≡ Some (To t) → priority_of s t ≡ priority_of s r → s.left ≡ 0
over_for None choice s t r is runs e same = absurd (none-some r (sym is ∙ runs))
over_for (Some q) None s t r is runs e same = absurd (nowhere_to t e)
over_for (Some q) (Some k) s t r is runs e same =
    let to = tested_to (is_switching_allowed (Some q) s && takes_over k q s) k t e in
    let equal : priority_of s k ≡ priority_of s q = ap (priority_of s) to.1 ∙ same ∙ ap (priority_of s) (sym (one_task (sym is ∙ runs))) in
    none_left s.left (equal_over (priority_of s q) (is_quantum_over s)
    (subst (λ p. (int_lt (priority_of s q) p || (int_le (priority_of s q) p && is_quantum_over s)) ≡ true) equal
    (second_true (is_switching_allowed (Some q) s) (takes_over k q s) to.0)))
  where
    one_task : {x y : ℕ} → Some x ≡ Some y → x ≡ y
    one_task {x} {y} e = cc

pub switches_go_to_the_chosen : SwitchesGoToTheChosen
unfolding switches rescheduled switch_of
switches_go_to_the_chosen s name e =
    let c = switch_for s.schedule.running (chosen (pri_at s.schedule.queue.pris) s.schedule.queue.ready) s.schedule in
    let to = toward c (on_schedule (rescheduled by_arrival) s) name e in (
      to.0,
      to.2 ∙ ap (λ d. task_name (after_switch by_arrival d s.schedule) to.0) to.1 ∙ begun_names s.schedule.running to.0 to.0 s.schedule,
      elected s.schedule.running (chosen (pri_at s.schedule.queue.pris) s.schedule.queue.ready) s.schedule to.0 refl refl to.1,
      ap (λ (r : State). r.schedule.running) (switches_quiet s).1
          ∙ ap (λ d. (after_switch by_arrival d s.schedule).running) to.1 ∙ begun_running to.0 (displaced by_arrival s.schedule.running s.schedule),
      λ r runs equal. over_for s.schedule.running (chosen (pri_at s.schedule.queue.pris) s.schedule.queue.ready) s.schedule to.0 r refl runs to.1 equal,
    )
