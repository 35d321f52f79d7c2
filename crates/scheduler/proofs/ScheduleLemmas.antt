-- What follows from a schedule's being sound, and the schedules that calls on the tasks lead to.
use Rattle.std.proofs.Common.{◌≡◌, ◌≢◌, ℕ, ◌<◌, zero, suc, Bool, true, false, cond, List, [], ◌∷◌, Option, Some, None, IfSome, length, slice_set, refl, sym, ap, ◌∙◌, arith, ℤ, eq-eqb}
use Rattle.std.proofs.lemmas.List.{set-get_or}
use Rattle.execlist.specs.{Order.enqueue, Order.first, Order.without_item, Lists.times, Disciplines.pri_at, Disciplines.by_priority}
use Rattle.taskq.specs.declared.TaskState.TheVariants.{Absent, Ready, Running, Waiting, Removed}
use Rattle.taskq.specs.{Tasks.Tasks, Tasks.state_at, Tasks.is_ready, declared.TaskState.TaskState, declared.Why.TheVariants.Signals, declared.Why.TheVariants.Sem}
use Rattle.execlist.proofs.PlainLemmas.{without_fresh}
use Rattle.signals.specs.Signals.{SignalSets}
use Rattle.forbid.specs.Nesting.{Nesting}
use Rattle.scheduler.specs.Schedule.{Schedule, status_of, switch_for, begins, waits_for, waits_at_semaphore, leaves, departs, task_removed, with_priority}
use Rattle.scheduler.specs.{declared.Switch.Switch, declared.Switch.TheVariants.To, Dispatch.arrives, Dispatch.switch_of, Dispatch.displaced, Dispatch.after_switch, Dispatch.rescheduled, Dispatch.reprioritized, Sound.IsSoundSchedule, Sound.IsToReady, Sound.is_running, Sound.is_task}

-- ---- the running task

-- a task that is not absent is one of the file
pub is_known : (states : List TaskState) (t : ℕ) → state_at states t ≢ Absent → t < length states
is_known [] t present = absurd (present refl)
is_known (x ∷ xs) zero present = omega arith
is_known (x ∷ xs) (suc t) present = omega (arith, is_known xs t present)

-- the test of the state of running
runs : (v : TaskState) → is_running v ≡ true → v ≡ Running
runs Absent e = cc
runs Ready e = cc
runs Running e = refl
runs (Waiting why) e = cc
runs Removed e = cc

-- the running task passes that test
is_running-runner : (states : List TaskState) (running : Option ℕ) (signals : List SignalSets) (nestings : List Nesting) (r : ℕ)
    → IsSoundSchedule states running signals nestings → running ≡ Some r → is_running (state_at states r) ≡ true
is_running-runner states running signals nestings r sound e =
    sound.one_runs r ∙ ap (λ o. is_task o r) e ∙ eq-eqb r r refl

-- the running task is in the state of running
pub runner_runs : (states : List TaskState) (running : Option ℕ) (signals : List SignalSets) (nestings : List Nesting) (r : ℕ)
    → IsSoundSchedule states running signals nestings → running ≡ Some r → state_at states r ≡ Running
runner_runs states running signals nestings r sound e =
    runs (state_at states r) (is_running-runner states running signals nestings r sound e)

-- the running task is one of the file
pub runner_known : (states : List TaskState) (running : Option ℕ) (signals : List SignalSets) (nestings : List Nesting) (r : ℕ)
    → IsSoundSchedule states running signals nestings → running ≡ Some r → r < length states
runner_known states running signals nestings r sound e =
    let runs = runner_runs states running signals nestings r sound e in
    is_known states r (λ absent. cc)

-- the running task, if any, is one of the file
pub running_known : (states : List TaskState) (running : Option ℕ) (signals : List SignalSets) (nestings : List Nesting)
    → IsSoundSchedule states running signals nestings → IfSome running (λ t. t < length states)
running_known states None signals nestings sound = tt
running_known states (Some r) signals nestings sound = runner_known states (Some r) signals nestings r sound refl

-- a task that is put back leaves a ready one ready
ready_still : (states : List TaskState) (r t : ℕ) → state_at states t ≡ Ready → state_at (slice_set states r Ready) t ≡ Ready
ready_still [] r t e = e
ready_still (x ∷ xs) zero zero e = refl
ready_still (x ∷ xs) zero (suc t) e = e
ready_still (x ∷ xs) (suc r) zero e = e
ready_still (x ∷ xs) (suc r) (suc t) e = ready_still xs r t e

-- a ready task is ready if the running one, if any, is put back
pub displaced_ready : (s : Schedule) (running : Option ℕ) (t : ℕ) → status_of s t ≡ Ready → status_of (displaced by_priority running s) t ≡ Ready
unfolding arrives
displaced_ready s None t e = e
displaced_ready s (Some r) t e = ready_still s.queue.states r t e

-- ---- switches

-- the switch that is due, by what is chosen
pub switch_of-is : (s : Schedule) (choice : Option ℕ) → first s.queue.ready ≡ choice → switch_of by_priority s ≡ switch_for s.running choice s
unfolding switch_of
switch_of-is s choice e = ap (λ o. switch_for s.running o s) e

-- the task of a switch is ready
pub to_ready : (w : Option Switch) (t : ℕ) (states : List TaskState) → w ≡ Some (To t) → IsToReady w states → state_at states t ≡ Ready
to_ready w t states e ready = rw e at ready

-- a task that begins to run takes the place of the running one
pub begins-vacant : (t : ℕ) (s : Schedule) → begins t (record s { running = None }) ≡ begins t s
unfolding begins
begins-vacant t s = refl

-- making the switch that is due is all that `rescheduled` does
pub rescheduled-is : (s : Schedule) (w : Option Switch) → w ≡ switch_of by_priority s → after_switch by_priority w s ≡ rescheduled by_priority s
unfolding rescheduled
rescheduled-is s w e = ap (λ o. after_switch by_priority o s) e

-- ---- what the calls on the tasks make of a schedule

-- tasks with these parts
tasks_are : (q : Tasks) (ready : List ℕ) (states : List TaskState) (pris : List ℤ) (names : List (List ℕ))
    → q.ready ≡ ready → q.states ≡ states → q.pris ≡ pris → q.names ≡ names
    → q ≡ record { ready = ready; states = states; pris = pris; names = names }
tasks_are q ready states pris names a b c d =
    ap (λ (x : List ℕ). record q { ready = x }) a
    ∙ ap (λ (x : List TaskState). record q { ready = ready; states = x }) b
    ∙ ap (λ (x : List ℤ). record q { ready = ready; states = states; pris = x }) c
    ∙ ap (λ (x : List (List ℕ)). record { ready = ready; states = states; pris = pris; names = x }) d

-- the tasks with t ready
pub arrived : (s : Schedule) (q : Tasks) (t : ℕ)
    → q.ready ≡ enqueue (pri_at s.queue.pris) s.queue.ready t → q.states ≡ slice_set s.queue.states t Ready
    → q.pris ≡ s.queue.pris → q.names ≡ s.queue.names → record s { queue = q } ≡ arrives by_priority t s
unfolding arrives
arrived s q t a b c d = ap (λ queue. record s { queue = queue }) (tasks_are q _ _ _ _ a b c d)

-- the tasks with t running, and a full quantum
pub begun : (s : Schedule) (q : Tasks) (t : ℕ)
    → q.ready ≡ without_item t s.queue.ready → q.states ≡ slice_set s.queue.states t Running
    → q.pris ≡ s.queue.pris → q.names ≡ s.queue.names
    → record s { queue = q; running = Some t; left = s.quantum; idle = false } ≡ begins t s
unfolding begins
begun s q t a b c d = ap (λ queue. record s { queue = queue; running = Some t; left = s.quantum; idle = false }) (tasks_are q _ _ _ _ a b c d)

-- the tasks with the running one waiting
pub slept : (s : Schedule) (q : Tasks) (t mask : ℕ)
    → q.ready ≡ s.queue.ready → q.states ≡ slice_set s.queue.states t (Waiting (Signals mask))
    → q.pris ≡ s.queue.pris → q.names ≡ s.queue.names
    → record s { queue = q; running = None } ≡ waits_for t mask s
unfolding waits_for
slept s q t mask a b c d = ap (λ queue. record s { queue = queue; running = None }) (tasks_are q _ _ _ _ a b c d)

-- the tasks with the running one waiting for a semaphore
pub slept_at_semaphore : (s : Schedule) (q : Tasks) (t : ℕ)
    → q.ready ≡ s.queue.ready → q.states ≡ slice_set s.queue.states t (Waiting Sem)
    → q.pris ≡ s.queue.pris → q.names ≡ s.queue.names
    → record s { queue = q; running = None } ≡ waits_at_semaphore t s
unfolding waits_at_semaphore
slept_at_semaphore s q t a b c d = ap (λ queue. record s { queue = queue; running = None }) (tasks_are q _ _ _ _ a b c d)

-- the tasks with the running one ready
pub displaced_is : (s : Schedule) (q : Tasks) (r : ℕ) → s.running ≡ Some r
    → q ≡ record s.queue { ready = enqueue (pri_at s.queue.pris) s.queue.ready r; states = slice_set s.queue.states r Ready }
    → record s { queue = q; running = None } ≡ record (displaced by_priority s.running s) { running = None }
unfolding arrives
displaced_is s q r e put_back =
    ap (λ queue. record s { queue = queue; running = None }) put_back
    ∙ ap (λ (o : Option ℕ). record (displaced by_priority o s) { running = None }) (sym e)

-- the tasks with the running one removed: it was not among the ready ones
pub retired : (s : Schedule) (q : Tasks) (t : ℕ) → state_at s.queue.states t ≡ Running
    → times t s.queue.ready ≡ cond (is_ready (state_at s.queue.states t)) 1 0
    → q.ready ≡ without_item t s.queue.ready → q.states ≡ slice_set s.queue.states t Removed
    → q.pris ≡ s.queue.pris → q.names ≡ s.queue.names
    → record s { queue = q; running = None } ≡ leaves t s
unfolding leaves
retired s q t running once a b c d =
    let ready = without_fresh t s.queue.ready (once ∙ ap (λ v. cond (is_ready v) 1 0) running) in
    ap (λ queue. record s { queue = queue; running = None }) (tasks_are q _ _ _ _ (a ∙ ready) b c d)

-- the tasks with t removed
pub removed_is : (s : Schedule) (q : Tasks) (t : ℕ)
    → q.ready ≡ without_item t s.queue.ready → q.states ≡ slice_set s.queue.states t Removed
    → q.pris ≡ s.queue.pris → q.names ≡ s.queue.names → record s { queue = q } ≡ task_removed t s
unfolding task_removed
removed_is s q t a b c d = ap (λ queue. record s { queue = queue }) (tasks_are q _ _ _ _ a b c d)

-- the test of the state of being ready
was_ready : (v : TaskState) → is_ready v ≡ true → v ≡ Ready
was_ready Absent e = cc
was_ready Ready e = refl
was_ready Running e = cc
was_ready (Waiting why) e = cc
was_ready Removed e = cc

-- a ready task that is made ready keeps its state
ready_again : (states : List TaskState) (t : ℕ) → is_ready (state_at states t) ≡ true → states ≡ slice_set states t Ready
ready_again states t e = sym (ap (slice_set states t) (sym (was_ready (state_at states t) e)) ∙ set-get_or states t Absent)

-- the tasks with another priority of t
pub reprioritized_is : (s : Schedule) (q : Tasks) (t : ℕ) (pri : ℤ)
    → q.ready ≡ cond (is_ready (state_at s.queue.states t)) (enqueue (pri_at q.pris) (without_item t s.queue.ready) t) s.queue.ready
    → q.states ≡ s.queue.states → q.pris ≡ slice_set s.queue.pris t pri → q.names ≡ s.queue.names
    → record s { queue = q } ≡ reprioritized by_priority t pri s
unfolding reprioritized arrives
reprioritized_is s q t pri a b c d = by_case (is_ready (state_at s.queue.states t)) refl a where
  by_case : (b : Bool) → is_ready (state_at s.queue.states t) ≡ b
      → q.ready ≡ cond b (enqueue (pri_at q.pris) (without_item t s.queue.ready) t) s.queue.ready
      → record s { queue = q } ≡ cond b (arrives by_priority t (departs t (with_priority t pri s))) (with_priority t pri s)
  by_case true ready order =
      let arrival = order ∙ ap (λ pris. enqueue (pri_at pris) (without_item t s.queue.ready) t) c in
      ap (λ queue. record s { queue = queue }) (tasks_are q _ _ _ _ arrival (b ∙ ready_again s.queue.states t ready) c d)
  by_case false other order = ap (λ queue. record s { queue = queue }) (tasks_are q _ _ _ _ order b c d)
