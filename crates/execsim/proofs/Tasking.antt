-- How the machine follows the words that begin and end tasks, and the one of priorities.
use Rattle.std.proofs.Common.{◌≡◌, ℕ, ◌-◌, true, false, List, Option, None, Some, refl, ap, sym, ◌∙◌, subst, codes, if◌then◌else◌, w32}
use Rattle.std.specs.Int.{cast_signed, cast_unsigned}
use Rattle.execlist.specs.{Lists.times, Disciplines.by_arrival, Disciplines.by_priority}
use Rattle.taskq.specs.Tasks.{is_ready}
use Rattle.scheduler.specs.{Schedule.Schedule, Schedule.status_of, Schedule.priority_of, Schedule.is_absent, Schedule.leaves, Schedule.task_removed, Schedule.found, Dispatch.added, Dispatch.reprioritized}
use Rattle.execmodel.specs.{State.Call, State.State, State.Outcome, State.on_schedule, State.on_heap, Calls.argument, Calls.name_argument, Calls.done, Calls.answered, Calls.alerted, Signals.is_task, Semaphores.awaited_by, Semaphores.dropped, Semaphores.leaving_queue, Tasks.is_live_task, Tasks.is_priority, Tasks.is_caller, Tasks.ends_other, Tasks.does_set_task_pri, Tasks.does_add_task, Tasks.does_rem_task, Tasks.found_number, Tasks.does_find_task}
use Rattle.execsim.specs.Agreement.{Seen, Agrees, Follows, in_order}
use Rattle.execsim.proofs.Following.{reads_schedule, reads_scripts, moves_memory, moves_schedule, moves_schedule_seen, follows_as, follows_change}
use Rattle.execsim.proofs.Ordering.{added-in_order, leaves-in_order, removed-in_order, reprioritized-in_order}
use Rattle.exectrace.specs.Hearing.{Hearing}
use Rattle.script.specs.declared.alert.Alert.TheVariants as an_alert

-- the same numbers are those of live tasks
live_same : {m : Seen} (number : ℕ) (s : State) → Agrees m s → is_live_task number s.scripts s.schedule ≡ is_live_task number m.scripts m.schedule
live_same {m} number s e =
    ap (λ scripts. is_live_task number scripts s.schedule) (sym e.scripts)
    ∙ reads_schedule (λ y. is_live_task number m.scripts y) (λ y. refl) refl s e

-- the mark of a task that is removed changes nothing else
module _ (t : ℕ) (o : Outcome) where
  queue_state : (semaphore : Option ℕ) → (leaving_queue semaphore t o).state ≡ o.state
  queue_state None = refl
  queue_state (Some semaphore) = refl

  queue_lines : (semaphore : Option ℕ) → (leaving_queue semaphore t o).lines ≡ o.lines
  queue_lines None = refl
  queue_lines (Some semaphore) = refl

-- an action that leaves the mark of a task that is removed, too
follows_queue : {H : Hearing} {f : State → Outcome} {m n : Seen} {a b : H.Told} (semaphore : State → Option ℕ) (t : ℕ) → Follows H f m n a b
    → Follows H (λ s. leaving_queue (semaphore s) t (f s)) m n a b
follows_queue {H} {f} {m} {n} {a} {b} semaphore t follows = record {
  agrees = λ s e. subst (Agrees n) (sym (queue_state t (f s) (semaphore s))) (follows.agrees s e);
  prints = λ s e. subst (λ lines. H.hears a b (lines)) (sym (queue_lines t (f s) (semaphore s))) (follows.prints s e);
}

found_number-in_order : (t : ℕ) (name : Option (List ℕ)) (y : Schedule) → found_number t name (in_order y) ≡ found_number t name y
unfolding found
found_number-in_order t None y = refl
found_number-in_order t (Some name) y = refl

module _ {H : Hearing} {m n : Seen} {a b : H.Told} (t : ℕ) (call : Call) where
  pub pri_unknown : is_live_task (argument 0 call) m.scripts m.schedule ≡ false → Follows H (alerted an_alert.Handle t call) m n a b
      → Follows H (does_set_task_pri t call) m n a b
  unfolding does_set_task_pri
  pri_unknown unknown follows = follows_as
      (λ s e. let same : is_live_task (argument 0 call) s.scripts s.schedule ≡ false = live_same (argument 0 call) s e ∙ unknown in rw same refl) follows

  pub pri_outside : is_live_task (argument 0 call) m.scripts m.schedule ≡ true → is_priority (cast_signed w32 (argument 1 call)) ≡ false
      → Follows H (alerted an_alert.Value t call) m n a b → Follows H (does_set_task_pri t call) m n a b
  unfolding does_set_task_pri
  pri_outside live outside follows = follows_as
      (λ s e. let same : is_live_task (argument 0 call) s.scripts s.schedule ≡ true = live_same (argument 0 call) s e ∙ live in rw (same, outside) refl) follows

  pub pri_set : {o : Seen} (old : ℕ) → is_live_task (argument 0 call) m.scripts m.schedule ≡ true → is_priority (cast_signed w32 (argument 1 call)) ≡ true
      → old ≡ cast_unsigned w32 (priority_of m.schedule (argument 0 call - 1))
      → n ≡ record m { schedule = reprioritized by_priority (argument 0 call - 1) (cast_signed w32 (argument 1 call)) m.schedule }
      → ((x : ℕ) → times x m.schedule.queue.ready ≡ (if is_ready (status_of m.schedule x) then 1 else 0))
      → Follows H (answered t call old) n o a b → Follows H (does_set_task_pri t call) m o a b
  unfolding does_set_task_pri
  pri_set old live inside was is stand follows = follows_as
      {g = λ s. answered t call old (on_schedule (reprioritized by_arrival (argument 0 call - 1) (cast_signed w32 (argument 1 call))) s)}
      (λ s e.
      let same : is_live_task (argument 0 call) s.scripts s.schedule ≡ true = live_same (argument 0 call) s e ∙ live in
      let before : cast_unsigned w32 (priority_of s.schedule (argument 0 call - 1)) ≡ old =
      reads_schedule (λ y. cast_unsigned w32 (priority_of y (argument 0 call - 1))) (λ y. refl) (sym was) s e in
      rw (same, inside, before) refl)
      (follows_change (moves_schedule_seen (reprioritized by_arrival (argument 0 call - 1) (cast_signed w32 (argument 1 call)))
      (reprioritized by_priority (argument 0 call - 1) (cast_signed w32 (argument 1 call)))
      (λ y e. reprioritized-in_order (argument 0 call - 1) (cast_signed w32 (argument 1 call)) y
      (subst (λ (z : Schedule). (x : ℕ) → times x z.queue.ready ≡ (if is_ready (status_of z x) then 1 else 0)) e stand)) is) follows)

  pub add_unknown : is_task (argument 0 call) m.scripts ≡ false → Follows H (alerted an_alert.Handle t call) m n a b → Follows H (does_add_task t call) m n a b
  unfolding does_add_task
  add_unknown unknown follows = follows_as
      (λ s e. let same : is_task (argument 0 call) s.scripts ≡ false = reads_scripts (is_task (argument 0 call)) unknown s e in rw same refl) follows

  pub add_tried : {o : Seen} (answer : ℕ) → is_task (argument 0 call) m.scripts ≡ true
      → answer ≡ (if is_absent (status_of m.schedule (argument 0 call - 1)) then argument 0 call else 0)
      → n ≡ record m { schedule = added by_priority (argument 0 call - 1) m.schedule }
      → Follows H (answered t call answer) n o a b → Follows H (does_add_task t call) m o a b
  unfolding does_add_task
  add_tried answer known begun is follows = follows_as
      {g = λ s. answered t call answer (on_schedule (added by_arrival (argument 0 call - 1)) s)}
      (λ s e.
      let same : is_task (argument 0 call) s.scripts ≡ true = reads_scripts (is_task (argument 0 call)) known s e in
      let tells : (if is_absent (status_of s.schedule (argument 0 call - 1)) then argument 0 call else 0) ≡ answer =
      reads_schedule (λ y. if is_absent (status_of y (argument 0 call - 1)) then argument 0 call else 0) (λ y. refl) (sym begun) s e in
      rw (same, tells) refl)
      (follows_change (moves_schedule (added by_arrival (argument 0 call - 1)) (added by_priority (argument 0 call - 1)) (added-in_order (argument 0 call - 1)) is) follows)

  pub rem_caller : {o : Seen} → is_caller t (argument 0 call) ≡ true → n ≡ record m { schedule = leaves t m.schedule }
      → Follows H (done t call) n o a b → Follows H (does_rem_task t call) m o a b
  unfolding does_rem_task
  rem_caller own is follows = follows_as {g = λ s. done t call (on_schedule (leaves t) s)} (λ s e. rw own refl)
      (follows_change (moves_schedule (leaves t) (leaves t) (leaves-in_order t) is) follows)

  pub rem_unknown : is_caller t (argument 0 call) ≡ false → is_live_task (argument 0 call) m.scripts m.schedule ≡ false
      → Follows H (alerted an_alert.Handle t call) m n a b → Follows H (does_rem_task t call) m n a b
  unfolding does_rem_task
  rem_unknown other unknown follows = follows_as
      (λ s e. let same : is_live_task (argument 0 call) s.scripts s.schedule ≡ false = live_same (argument 0 call) s e ∙ unknown in rw (other, same) refl) follows

  pub rem_other : {o : Seen} → is_caller t (argument 0 call) ≡ false → is_live_task (argument 0 call) m.scripts m.schedule ≡ true
      → n ≡ record m {
        schedule = task_removed (argument 0 call - 1) m.schedule;
        memory = on_heap (dropped (argument 0 call - 1)) m.memory;
      }
      → Follows H (done t call) n o a b → Follows H (does_rem_task t call) m o a b
  unfolding does_rem_task
  rem_other other live is follows =
      let number = argument 0 call - 1 in
      follows_as {g = ends_other number t call}
      (λ s e. let same : is_live_task (argument 0 call) s.scripts s.schedule ≡ true = live_same (argument 0 call) s e ∙ live in rw (other, same) refl)
      (follows_queue (λ s. awaited_by number s.memory.heap) number
      (follows_change {n = record m { memory = on_heap (dropped number) m.memory }}
      (moves_memory (on_heap (dropped number)) (on_heap (dropped number)) (λ y. refl) refl)
      (follows_change (moves_schedule (task_removed number) (task_removed number) (removed-in_order number) is) follows)))

  pub task_found : (answer : ℕ) → answer ≡ found_number t (name_argument 0 call) m.schedule → Follows H (answered t call answer) m n a b
      → Follows H (does_find_task t call) m n a b
  unfolding does_find_task
  task_found answer is follows = follows_as {g = answered t call answer}
      (λ s e.
      let same : found_number t (name_argument 0 call) s.schedule ≡ answer =
      reads_schedule (λ y. found_number t (name_argument 0 call) y) (λ y. found_number-in_order t (name_argument 0 call) y) (sym is) s e in
      rw same refl) follows
