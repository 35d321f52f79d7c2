-- How the machine follows the words of semaphores.
use Rattle.std.proofs.Common.{◌≡◌, ℕ, Bool, true, false, List, [], Option, None, Some, refl, ap, sym, Result, Ok, Err, IfOk, OnOk, OnErr, if◌then◌else◌, unwrap_or}
use Rattle.execlist.specs.Disciplines.{by_arrival, by_priority}
use Rattle.scheduler.specs.{Schedule.Schedule, Schedule.waits_at_semaphore, Dispatch.arrives}
use Rattle.sigsem.specs.{Semaphores.free_sem, Semaphores.is_free_for, Semaphores.outcome_for, declared.semaphore.Obtained.Obtained, declared.semaphore.Obtained.TheVariants.Waits}
use Rattle.execmodel.specs.Semaphores.{attempted, heir, is_semaphore, is_tried_again, obtain_alert, obtained, obtains, passes, release_alert, released, sem_of, semaphore_size}
use Rattle.execmodel.specs.{State.Call, State.Heap, State.Memory, State.State, State.Outcome, State.Semaphore, State.asked, State.passed, State.on_schedule, State.on_memory, State.on_heap, Calls.unless, Calls.argument, Calls.done, Calls.answered, Calls.waiting, Calls.alerted, Memory.placed, LowMemory.after_asking_for_object, Objects.place_for_object}
use Rattle.execmodel.specs.Semaphores as model
use Rattle.execheap.specs.{declared.refusal.Refusal.Refusal, Refusals.alert_of, Refusals.code_of}
use Rattle.execsim.specs.{Actions.obtains_or_alerted, Actions.passes_or_alerted, Agreement.Seen, Agreement.Follows, Agreement.in_order}
use Rattle.execsim.proofs.Following.{reads_memory, reads_scripts, moves_memory, moves_schedule, follows_as, follows_change, follows_leaving}
use Rattle.execsim.proofs.{Listing.follows_allowed, Listing.follows_made, Listing.follows_refused, Ordering.arrives-in_order}
use Rattle.exectrace.specs.Hearing.{Hearing}
use Rattle.script.specs.declared.alert.Alert.{Alert}

-- ---- waiting

waits_at_semaphore-in_order : (t : ℕ) (y : Schedule) → waits_at_semaphore t (in_order y) ≡ in_order (waits_at_semaphore t y)
unfolding waits_at_semaphore
waits_at_semaphore-in_order t y = refl

-- ---- made

pub semaphore_made : {H : Hearing} {m n o : Seen} {a b : H.Told} (t : ℕ) (call : Call) (place : Option ℕ)
    → place ≡ place_for_object is_semaphore semaphore_size (after_asking_for_object is_semaphore semaphore_size m.memory)
    → n ≡ record m { memory = placed semaphore_size (Semaphore free_sem []) place (after_asking_for_object is_semaphore semaphore_size m.memory) }
    → Follows H (answered t call (unwrap_or place 0)) n o a b → Follows H (model.does_new_sem t call) m o a b
unfolding model.does_new_sem
semaphore_made t call place = follows_made t call is_semaphore semaphore_size (Semaphore free_sem []) place

-- ---- calls that go on as they read

-- a call that is not refused changes the memory, and goes on as it read it before
goes_on_as : {H : Hearing} {X : Type 0} {m o : Seen} {a b : H.Told} (t : ℕ) (call : Call) (alert : Heap → Option Alert) (read : Heap → X)
    (ends : X → State → Outcome) (next : Heap → Heap) (x : Memory) (value : X) → None ≡ alert m.memory.heap → value ≡ read m.memory.heap
    → x ≡ on_heap next m.memory → Follows H (ends value) (record m { memory = x }) o a b
    → Follows H (λ s. unless (alert s.memory.heap) t call (λ s. ends (read s.memory.heap) (on_memory (on_heap next) s)) s) m o a b
goes_on_as {m = m} t call alert read ends next x value says is changed follows =
    follows_allowed t call (λ memory. alert memory.heap) (λ y. refl) _ says (follows_as
    {g = λ s. ends value (on_memory (on_heap next) s)}
    (λ s e. ap (λ v. ends v (on_memory (on_heap next) s)) (reads_memory (λ memory. read memory.heap) (λ y. refl) (sym is) s e))
    (follows_change (moves_memory (on_heap next) (on_heap next) (λ y. refl) (ap (λ y. record m { memory = y }) changed)) follows))

-- ---- obtaining

-- the running task waits, and so does its call
pub waits : {H : Hearing} {m n o : Seen} {a b : H.Told} (t : ℕ) (call : Call) (semaphore : ℕ) → n ≡ record m { schedule = waits_at_semaphore t m.schedule }
    → Follows H (waiting t call) n o a b → Follows H (obtains_or_alerted (Ok Waits) semaphore t call) m o a b
waits t call semaphore is follows =
    follows_leaving {f = λ s. waiting t call (on_schedule (waits_at_semaphore t) s)} (λ s. asked semaphore t)
    (follows_change (moves_schedule (waits_at_semaphore t) (waits_at_semaphore t) (waits_at_semaphore-in_order t) is) follows)

module _ {H : Hearing} {m o : Seen} {a b : H.Told} (t : ℕ) (call : Call) where
  pub obtain_again : is_tried_again t m.scripts ≡ true → Follows H (done t call) m o a b → Follows H (model.does_obtain_semaphore t call) m o a b
  unfolding model.does_obtain_semaphore
  obtain_again again follows = follows_as
      (λ s e. let same : is_tried_again t s.scripts ≡ true = reads_scripts (is_tried_again t) again s e in rw same refl) follows

  pub obtain_tried : (x : Memory) (result : Result Obtained Refusal) → is_tried_again t m.scripts ≡ false
      → alert_of result ≡ obtain_alert t (argument 0 call) m.memory.heap
      → IfOk result (λ how. how ≡ outcome_for t (sem_of (argument 0 call) m.memory.heap))
      → OnOk result (x ≡ on_heap (obtained (argument 0 call) t) m.memory) → OnErr result (x ≡ m.memory)
      → Follows H (obtains_or_alerted result (argument 0 call) t call) (record m { memory = x }) o a b
      → Follows H (model.does_obtain_semaphore t call) m o a b
  unfolding model.does_obtain_semaphore
  obtain_tried x result first says how changed kept follows =
      follows_as
      {g = λ s. unless (obtain_alert t (argument 0 call) s.memory.heap) t call effect s}
      (λ s e. let same : is_tried_again t s.scripts ≡ false = reads_scripts (is_tried_again t) first s e in rw same refl)
      (by_result result says how changed kept follows)
    where
      effect : State → Outcome
      effect s = obtains (outcome_for t (sem_of (argument 0 call) s.memory.heap)) (argument 0 call) t call
          (on_memory (on_heap (obtained (argument 0 call) t)) s)

      by_result : (result : Result Obtained Refusal) → alert_of result ≡ obtain_alert t (argument 0 call) m.memory.heap
          → IfOk result (λ how. how ≡ outcome_for t (sem_of (argument 0 call) m.memory.heap))
          → OnOk result (x ≡ on_heap (obtained (argument 0 call) t) m.memory) → OnErr result (x ≡ m.memory)
          → Follows H (obtains_or_alerted result (argument 0 call) t call) (record m { memory = x }) o a b
          → Follows H (λ s. unless (obtain_alert t (argument 0 call) s.memory.heap) t call effect s) m o a b
      by_result (Ok how) says is changed kept follows =
          goes_on_as t call (obtain_alert t (argument 0 call)) (λ heap. outcome_for t (sem_of (argument 0 call) heap))
          (λ how. obtains how (argument 0 call) t call) (obtained (argument 0 call) t) x how says is changed follows
      by_result (Err why) says is changed kept follows =
          follows_refused t call (λ memory. obtain_alert t (argument 0 call) memory.heap) (λ y. refl) effect why says (rw kept at follows)

  -- ---- attempting

  pub attempt_made : (x : Memory) (has : Bool) → None ≡ obtain_alert t (argument 0 call) m.memory.heap
      → has ≡ is_free_for t (sem_of (argument 0 call) m.memory.heap) → x ≡ on_heap (attempted (argument 0 call) t) m.memory
      → Follows H (answered t call (if has then 1 else 0)) (record m { memory = x }) o a b
      → Follows H (model.does_attempt_semaphore t call) m o a b
  unfolding model.does_attempt_semaphore
  attempt_made x has says is changed follows =
      goes_on_as t call (obtain_alert t (argument 0 call)) (λ heap. is_free_for t (sem_of (argument 0 call) heap))
      (λ has. answered t call (if has then 1 else 0)) (attempted (argument 0 call) t) x has says is changed follows

  pub attempt_refused : (x : Memory) (why : Refusal) → Some (code_of why) ≡ obtain_alert t (argument 0 call) m.memory.heap → x ≡ m.memory
      → Follows H (alerted (code_of why) t call) (record m { memory = x }) o a b → Follows H (model.does_attempt_semaphore t call) m o a b
  unfolding model.does_attempt_semaphore
  attempt_refused x why says kept follows =
      follows_refused t call (λ memory. obtain_alert t (argument 0 call) memory.heap) (λ y. refl) _ why says (rw kept at follows)

  -- ---- releasing

  pub release_tried : (x : Memory) (result : Result (Option ℕ) Refusal) → alert_of result ≡ release_alert t (argument 0 call) m.memory.heap
      → IfOk result (λ owner. owner ≡ heir (argument 0 call) m.memory.heap)
      → OnOk result (x ≡ on_heap (released (argument 0 call)) m.memory) → OnErr result (x ≡ m.memory)
      → Follows H (passes_or_alerted result (argument 0 call) t call) (record m { memory = x }) o a b
      → Follows H (model.does_release_semaphore t call) m o a b
  unfolding model.does_release_semaphore
  release_tried x (Ok owner) says is changed kept follows =
      goes_on_as t call (release_alert t (argument 0 call)) (heir (argument 0 call))
      (λ owner. passes owner (argument 0 call) t call) (released (argument 0 call)) x owner says is changed follows
  release_tried x (Err why) says is changed kept follows =
      follows_refused t call (λ memory. release_alert t (argument 0 call) memory.heap) (λ y. refl) _ why says (rw kept at follows)

-- the new owner becomes ready, and then the call is done
pub passed_on : {H : Hearing} {m n o : Seen} {a b : H.Told} (t : ℕ) (call : Call) (semaphore owner : ℕ) → n ≡ record m { schedule = arrives by_priority owner m.schedule }
    → Follows H (done t call) n o a b → Follows H (passes_or_alerted (Ok (Some owner)) semaphore t call) m o a b
passed_on t call semaphore owner is follows =
    follows_leaving {f = λ s. done t call (on_schedule (arrives by_arrival owner) s)} (λ s. passed semaphore owner)
    (follows_change (moves_schedule (arrives by_arrival owner) (arrives by_priority owner) (arrives-in_order owner) is) follows)
