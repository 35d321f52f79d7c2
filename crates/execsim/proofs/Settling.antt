-- What a settled machine does, and what leaves a machine settled.
use Rattle.std.proofs.Common.{◌≡◌, ℕ, zero, suc, ◌+◌, Bool, true, false, cond, ◌&&◌, ◌||◌, Option, None, Some, refl, ap, sym, ◌∙◌, subst, add-one, arith, if◌then◌else◌, is_some, nat_eq, int_lt, int_le, List, ◌++◌}
use Rattle.execlist.specs.{Order.first, Disciplines.by_priority, Disciplines.pri_at}
use Rattle.scheduler.specs.{Schedule.Schedule, Schedule.is_quantum_over, Schedule.is_switching_allowed, Schedule.priority_of, Schedule.renewed, Schedule.switch_for, declared.Switch.Switch, declared.Switch.TheVariants.To, Dispatch.after_switch, Dispatch.rescheduled, Dispatch.switch_of}
use Rattle.softint.specs.Sources.{highest}
use Rattle.execmodel.specs.{State.Outcome, State.Scripts, State.State, State.andthen, State.quiet, Pending.allows_interrupts, Step.announced, Step.settle, Step.step, Step.steps, Step.task_step}
use Rattle.execsim.specs.{Actions.softint_seen, Agreement.Seen, Agreement.Follows, Agreement.FollowsWhileGood, Resting.IsSettled}
use Rattle.execsim.proofs.Following.{andthen-assoc, andthen-quiet, follows_as, follows_nothing, follows_then, guarded_going, while_good_as, while_good_then}
use Rattle.execsim.proofs.Stepping.{acting_task, acts_going, announces_none, running_as, running_none, settle_going, step_as, switches_as}
use Rattle.execsim.proofs.Serving.{nothing_asks}
use Rattle.exectrace.specs.Hearing.{Hearing}

-- ---- settling once more

-- a settle of that schedule makes no switch, and changes nothing
abbrev IsStill : Schedule → Type 0
IsStill s = (switch_of by_priority s ≡ None) × (rescheduled by_priority s ≡ s)

-- with no switch, a quantum may begin anew
reschedules : (s : Schedule) → switch_of by_priority s ≡ None → rescheduled by_priority s ≡ renewed s.running s
unfolding rescheduled
reschedules s none = ap (λ (x : Option Switch). after_switch by_priority x s) none

-- a task that did not take over although the quantum had ended does not if it has begun anew
stays_behind : (allowed over higher equal again : Bool) (to : Switch) → (allowed && over) ≡ true
    → cond (allowed && (higher || (equal && over))) (Some to) None ≡ None → cond (allowed && (higher || (equal && again))) (Some to) None ≡ None
stays_behind false over higher equal again to is e = refl
stays_behind true false higher equal again to is e = let bad : false ≡ true = is in absurd cc
stays_behind true true true equal again to is e = let bad : Some to ≡ None = e in absurd cc
stays_behind true true false true again to is e = let bad : Some to ≡ None = e in absurd cc
stays_behind true true false false again to is e = refl

no_switch_again : (r : ℕ) (next : Option ℕ) (s : Schedule) → (is_switching_allowed (Some r) s && is_quantum_over s) ≡ true
    → switch_for (Some r) next s ≡ None → switch_for (Some r) next (record s { left = s.quantum }) ≡ None
no_switch_again r None s anew none = refl
no_switch_again r (Some t) s anew none =
    stays_behind (is_switching_allowed (Some r) s) (is_quantum_over s) (int_lt (priority_of s r) (priority_of s t)) (int_le (priority_of s r) (priority_of s t))
    (nat_eq s.quantum 0) (To t) anew none

either : {X : Type 0} (b : Bool) (x : X) → cond b x x ≡ x
either true x = refl
either false x = refl

unswitched : (s : Schedule) (r : ℕ) → switch_of by_priority s ≡ None → s.running ≡ Some r
    → (is_switching_allowed (Some r) s && is_quantum_over s) ≡ true → switch_of by_priority (record s { left = s.quantum }) ≡ None
unfolding switch_of
unswitched s r none runs is =
    let next : Option ℕ = by_priority.choice (pri_at s.queue.pris) s.queue.ready in
    ap (λ (x : Option ℕ). switch_for x next (record s { left = s.quantum })) runs
    ∙ no_switch_again r next s is (ap (λ (x : Option ℕ). switch_for x next s) (sym runs) ∙ none)

module _ (s : Schedule) (none : switch_of by_priority s ≡ None) where
  by_runner : (running : Option ℕ) → s.running ≡ running → IsStill (renewed running s)
  by_runner None runs = (none, reschedules s none ∙ ap (λ (r : Option ℕ). renewed r s) runs)
  by_runner (Some r) runs = by_case (is_switching_allowed (Some r) s && is_quantum_over s) refl where
    anew : Schedule
    anew = record s { left = s.quantum }

    by_case : (b : Bool) → (is_switching_allowed (Some r) s && is_quantum_over s) ≡ b → IsStill (cond b anew s)
    by_case false is = (none, reschedules s none ∙ ap (λ (x : Option ℕ). renewed x s) runs ∙ ap (λ (b : Bool). cond b anew s) is)
    by_case true is =
        let again = unswitched s r none runs is in (
          again,
          reschedules anew again ∙ ap (λ (x : Option ℕ). renewed x anew) runs
              ∙ either (is_switching_allowed (Some r) s && nat_eq s.quantum 0) anew,
        )

  is_still : IsStill (rescheduled by_priority s)
  is_still = subst IsStill (sym (reschedules s none)) (by_runner s.running refl)

-- after a settle that had nothing to do
pub settled_after : (m : Seen) {n : Seen} → m.stopped ≡ false → is_some (highest m.pending.latches) ≡ false → None ≡ switch_of by_priority m.schedule
    → n ≡ record m { schedule = rescheduled by_priority m.schedule } → IsSettled n
settled_after m going unasked none is =
    let still = is_still m.schedule (sym none) in
    subst IsSettled (sym is) (record { going = going; unasked = unasked; unswitched = still.0; stays = still.1 })

-- a settle in which no source asks makes the switch that is due, if any
pub settles_by_switch : {H : Hearing} {m n o : Seen} {a b : H.Told} (choice : Option Switch) → m.stopped ≡ false → is_some (highest m.pending.latches) ≡ false
    → choice ≡ switch_of by_priority m.schedule → n ≡ record m { schedule = rescheduled by_priority m.schedule }
    → Follows H (announced choice) n o a b → Follows H settle m o a b
settles_by_switch {H} {m} {a = a} choice going unasked due is follows =
    settle_going going (follows_then (nothing_asks m a unasked) (guarded_going going (switches_as choice due is follows)))

-- ---- steps of a settled machine

module _ {m : Seen} (settled : IsSettled m) where
  pub settle_settled : {H : Hearing} (tape : H.Told) → Follows H settle m m tape tape
  settle_settled tape =
      settles_by_switch None settled.going settled.unasked (sym settled.unswitched) (ap (λ (y : Schedule). record m { schedule = y }) (sym settled.stays))
      (announces_none m tape)

  pub settled_scripts : {n : Seen} (scripts : Scripts) → n ≡ record m { scripts = scripts } → IsSettled n
  settled_scripts scripts is = subst IsSettled (sym is)
      (record { going = settled.going; unasked = settled.unasked; unswitched = settled.unswitched; stays = settled.stays })

  -- the machine is idle
  pub idle_step : {H : Hearing} (tape : H.Told) → softint_seen m ≡ None → m.schedule.running ≡ None → Follows H step m m tape tape
  idle_step tape uncaused none =
      step_as (acts_going settled.going (acting_task (sym uncaused) refl (running_none tape none))) (settle_settled tape)

-- the running task does a plain word
pub word_step : {H : Hearing} {m n : Seen} {a b : H.Told} (t : ℕ) → IsSettled m → softint_seen m ≡ None → m.schedule.running ≡ Some t
    → Follows H (task_step (Some t)) m n a b → IsSettled n → Follows H step m n a b
word_step {b = b} t settled uncaused runs follows after =
    step_as (acts_going settled.going (acting_task (sym uncaused) refl (running_as (Some t) runs follows))) (settle_settled after b)

-- no software interrupt is caused
pub none_caused : (m : Seen) → is_some (first m.pending.caused) ≡ false → softint_seen m ≡ None
none_caused m none = by_case (allows_interrupts m.schedule) (first m.pending.caused) none where
  by_case : (allowed : Bool) (next : Option ℕ) → is_some next ≡ false → (if allowed then next else None) ≡ None
  by_case false next e = refl
  by_case true None e = refl
  by_case true (Some i) e = let bad : true ≡ false = e in absurd cc

-- ---- many steps

first_same : (f g h : State → Outcome) (s : State) → f s ≡ g s → andthen f h s ≡ andthen g h s
unfolding andthen
first_same f g h s same =
    ap (λ (o : Outcome). record { state = (h o.state).state; lines = o.lines ++ (h o.state).lines; marks = o.marks ++ (h o.state).marks }) same

ends_quietly : (f : State → Outcome) (s : State) → andthen f quiet s ≡ f s
unfolding andthen
ends_quietly f s = andthen-quiet (f s)

-- some steps, and then some more
steps_then : (i k : ℕ) (s : State) → steps (i + k) s ≡ andthen (steps i) (steps k) s
unfolding steps
steps_then i zero s = let e : i + zero ≡ i = omega arith in ap (λ n. steps n s) e ∙ sym (ends_quietly (steps i) s)
steps_then i (suc k) s =
    let e : i + suc k ≡ suc (i + k) = omega arith in
    ap (λ n. steps n s) e
    ∙ first_same (steps (i + k)) (andthen (steps i) (steps k)) step s (steps_then i k s)
    ∙ sym (andthen-assoc (steps i) (steps k) step s)

one_step : (s : State) → steps 1 s ≡ step s
unfolding steps andthen
one_step s = refl

-- a step, and then some more
pub step_then : {H : Hearing} {m n o : Seen} {a b c : H.Told} (k : ℕ) → Follows H step m n a b → Follows H (steps k) n o b c → Follows H (steps (k + 1)) m o a c
step_then k one more = follows_as {g = andthen step (steps k)}
    (λ s e. let same : k + 1 ≡ 1 + k = omega arith in ap (λ n. steps n s) same ∙ steps_then 1 k s ∙ first_same (steps 1) step (steps k) s (one_step s))
    (follows_then one more)

pub just_one : {H : Hearing} {m n : Seen} {a b : H.Told} → Follows H step m n a b → Follows H (steps 1) m n a b
just_one one = follows_as {g = step} (λ s e. one_step s) one

same_end : (f : State → Outcome) (s : State) → andthen f (steps 1) s ≡ andthen f step s
unfolding andthen
same_end f s = ap (λ (o : Outcome). record { state = o.state; lines = (f s).lines ++ o.lines; marks = (f s).marks ++ o.marks }) (one_step (f s).state)

-- a step after some
pub then_step : {H : Hearing} {m n o : Seen} {a b c : H.Told} (k : ℕ) → Follows H (steps k) m n a b → Follows H step n o b c → Follows H (steps (k + 1)) m o a c
then_step k before last = follows_as {g = andthen (steps k) step}
    (λ s e. steps_then k 1 s ∙ same_end (steps k) s) (follows_then before last)

pub no_step : {H : Hearing} (m : Seen) (tape : H.Told) → Follows H (steps 0) m m tape tape
unfolding steps
no_step m tape = follows_nothing m tape

pub idle_steps : {H : Hearing} {m : Seen} (k : ℕ) (tape : H.Told) → IsSettled m → softint_seen m ≡ None → m.schedule.running ≡ None → Follows H (steps k) m m tape tape
idle_steps {H} {m} zero tape settled uncaused none = no_step m tape
idle_steps {H} {m} (suc k) tape settled uncaused none =
    let same : k + 1 ≡ suc k = omega arith in
    subst (λ (n : ℕ). Follows H (steps n) m m tape tape) same (then_step k (idle_steps k tape settled uncaused none) (idle_step settled tape uncaused none))

-- some steps after some, as long as the sink is good
pub then_steps : {H : Hearing} {m n o : Seen} {a b c : H.Told} (i k : ℕ) → FollowsWhileGood H (steps i) m n a b → FollowsWhileGood H (steps k) n o b c
    → FollowsWhileGood H (steps (i + k)) m o a c
then_steps i k before last = while_good_as {g = andthen (steps i) (steps k)} (λ s e. steps_then i k s) (while_good_then before last)
