-- What a word that does not touch the memory does, whatever the memory is.
use Rattle.std.proofs.Common.{◌≡◌, ℕ, ◌-◌, Bool, true, false, List, Option, None, Some, refl, sym, nat_eq, if◌then◌else◌, w32, is_some}
use Rattle.std.specs.Int.{cast_signed}
use Rattle.execlist.specs.Disciplines.{by_arrival}
use Rattle.forbid.specs.Nesting.{Nesting, after_forbid, after_permit, after_disable, after_enable}
use Rattle.scheduler.specs.Schedule.{Schedule, allocates_signal, frees_signal, sets_signals, after_wait, come_for, signals_of, nesting_of, nested, leaves, task_removed}
use Rattle.scheduler.specs.Dispatch.{signalled, added, reprioritized}
use Rattle.script.specs.declared.word.Word.{Word}
use Rattle.script.specs.declared.word.Word.TheVariants as group
use Rattle.script.specs.{declared.word.plain.PlainWord.PlainWord, declared.word.task_signals.SignalWord.SignalWord, declared.word.nesting.NestingWord.NestingWord, declared.word.tasks.TaskWord.TaskWord, declared.word.interrupts.InterruptWord.InterruptWord}
use Rattle.script.specs.declared.word.plain.PlainWord.TheVariants as plain
use Rattle.script.specs.declared.word.task_signals.SignalWord.TheVariants as signals
use Rattle.script.specs.declared.word.nesting.NestingWord.TheVariants as nesting
use Rattle.script.specs.declared.word.tasks.TaskWord.TheVariants as tasks
use Rattle.script.specs.declared.word.interrupts.InterruptWord.TheVariants as interrupts
use Rattle.script.specs.declared.alert.Alert.{Alert}
use Rattle.execmodel.specs.State.{Call, Memory, Pending, State, Outcome, quiet}
use Rattle.execmodel.specs.Calls.{Caller, ByTask, ByBody, argument, done, done_by, answered, waiting, silent, silent_by, alerted, unless_by, stored}
use Rattle.execmodel.specs.Plain.{does_plain, plain_rules, jumps}
use Rattle.execmodel.specs.Signals.{does_signals, signal_rules, signal_alert, mask_alert, free_signal_alert, waited}
use Rattle.execmodel.specs.Nesting.{does_nesting, nesting_rules, gives_nesting, nest_alert}
use Rattle.execmodel.specs.Tasks.{does_tasks, task_rules, is_caller, live_task_alert, set_task_pri_alert, add_task_alert, ends_other}
use Rattle.execmodel.specs.Causing.{does_interrupts, does_cause, does_cause_by}
use Rattle.execmodel.specs.Pending.{causes}
use Rattle.execmodel.specs.Bodies.{does_word_by, does_plain_by, does_signals_by, does_interrupts_by}
use Rattle.execmodel.specs.Step.{does_word}
use Rattle.execmodel.specs.Semaphores.{dropped}
use Rattle.execmodel.proofs.Heaps.{true_is_not_false}
use Rattle.statekeys.specs.Fits.{is_bare, placed, placed_in, IsWait, StaysSchedule, Stays, Drifts}
use Rattle.statekeys.proofs.Schedules.{allocates_stays, frees_stays, sets_stays, after_wait_stays, signalled_stays, nested_stays, added_stays, leaves_stays, removed_stays, reprioritized_stays}
use Rattle.statekeys.proofs.Programs.{goes_stays, keeps_stays, stored_stays, stored_shared_stays}

module _ (b : State) where
  -- an outcome that is the same but for the memory, which stays
  pub kept : (acts : Memory → Outcome) (core : Outcome) → ((m : Memory) → acts m ≡ placed_in m core) → Stays b core.state → Drifts b acts
  kept acts core same stays = record { core = core; same = λ m. (m, same m); stays = stays }

  pub chosen : (test : Bool) (one other : Memory → Outcome) → Drifts b one → Drifts b other → Drifts b (λ m. if test then one m else other m)
  chosen true one other first second = first
  chosen false one other first second = second

  pub refused : (alert : Option Alert) (c : Caller) (call : Call) (effect : State → Outcome) (s : State) → Stays b s
      → Drifts b (λ m. effect (placed m s)) → Drifts b (λ m. unless_by alert c call effect (placed m s))
  unfolding alerted
  refused None c call effect s h one = one
  refused (Some code) (ByTask t) call effect s h one =
      kept _ (alerted code t call s) (λ m. refl) (record { schedule = h.schedule; scripts = h.scripts; bodies = h.bodies })
  refused (Some code) (ByBody name) call effect s h one =
      kept _ (unless_by (Some code) (ByBody name) call effect s) (λ m. refl) (record { schedule = h.schedule; scripts = h.scripts; bodies = h.bodies })

  -- ---- how calls end, with another schedule

  ends_done : (t : ℕ) (call : Call) (r : Schedule) (s : State) → StaysSchedule b.schedule r → Stays b s
      → Drifts b (λ m. done t call (record (placed m s) { schedule = r }))
  unfolding done
  ends_done t call r s ok h =
      kept _ (done t call (record s { schedule = r })) (λ m. refl)
      (record { schedule = ok; scripts = goes_stays b.scripts t call.next s.scripts h.scripts; bodies = h.bodies })

  ends_answered : (t : ℕ) (call : Call) (value : ℕ) (r : Schedule) (s : State) → StaysSchedule b.schedule r → Stays b s
      → Drifts b (λ m. answered t call value (record (placed m s) { schedule = r }))
  unfolding answered
  ends_answered t call value r s ok h =
      kept _ (answered t call value (record s { schedule = r })) (λ m. refl)
      (record {
        schedule = ok;
        scripts = goes_stays b.scripts t call.next (stored t call.target value s.scripts) (stored_stays b.scripts t call.target value s.scripts h.scripts);
        bodies = h.bodies;
      })

  ends_waiting : (t : ℕ) (call : Call) (r : Schedule) (s : State) → IsWait call → StaysSchedule b.schedule r → Stays b s
      → Drifts b (λ m. waiting t call (record (placed m s) { schedule = r }))
  unfolding waiting
  ends_waiting t call r s is ok h =
      kept _ (waiting t call (record s { schedule = r })) (λ m. refl)
      (record { schedule = ok; scripts = keeps_stays b.scripts t call s.scripts is h.scripts; bodies = h.bodies })

  ends_silent : (t : ℕ) (call : Call) (value : ℕ) (s : State) → Stays b s → Drifts b (λ m. silent t call value (placed m s))
  unfolding silent
  ends_silent t call value s h =
      kept _ (silent t call value s) (λ m. refl)
      (record {
        schedule = h.schedule;
        scripts = goes_stays b.scripts t call.next (stored t call.target value s.scripts) (stored_stays b.scripts t call.target value s.scripts h.scripts);
        bodies = h.bodies;
      })

  ends_jump : (t place : ℕ) (s : State) → Stays b s → Drifts b (λ m. jumps t place (placed m s))
  unfolding jumps
  ends_jump t place s h =
      kept _ (jumps t place s) (λ m. refl)
      (record { schedule = h.schedule; scripts = goes_stays b.scripts t place s.scripts h.scripts; bodies = h.bodies })

  pub ends_quiet : (s : State) → Stays b s → Drifts b (λ m. quiet (placed m s))
  ends_quiet s h = kept _ (quiet s) (λ m. refl) h

  -- ---- the words of tasks

  plain_drifts : (word : PlainWord) (t : ℕ) (call : Call) (s : State) → Stays b s → Drifts b (λ m. does_plain word t call (placed m s))
  unfolding plain_rules
  plain_drifts plain.Set t call s h = ends_silent t call _ s h
  plain_drifts plain.Add t call s h = ends_silent t call _ s h
  plain_drifts plain.Sub t call s h = ends_silent t call _ s h
  plain_drifts plain.And t call s h = ends_silent t call _ s h
  plain_drifts plain.Or t call s h = ends_silent t call _ s h
  plain_drifts plain.Jump t call s h = ends_jump t _ s h
  plain_drifts plain.JumpZ t call s h = ends_jump t _ s h
  plain_drifts plain.JumpNZ t call s h = ends_jump t _ s h
  plain_drifts plain.Print t call s h = ends_done t call s.schedule s h.schedule h

  waited_drifts : (t : ℕ) (call : Call) (come : Option ℕ) (r : Schedule) (s : State) → IsWait call → StaysSchedule b.schedule r → Stays b s
      → Drifts b (λ m. waited t call come (record (placed m s) { schedule = r }))
  waited_drifts t call None r s is ok h = ends_waiting t call r s is ok h
  waited_drifts t call (Some bits) r s is ok h = ends_answered t call bits r s ok h

  signals_drifts : (word : SignalWord) (t : ℕ) (call : Call) (s : State) → call.word ≡ group.Signals word → Stays b s
      → Drifts b (λ m. does_signals word t call (placed m s))
  unfolding signal_rules
  signals_drifts signals.AllocSignal t call s is h =
      ends_answered t call _ (allocates_signal t (cast_signed w32 (argument 0 call)) s.schedule) s (allocates_stays b.schedule t _ s.schedule h.schedule) h
  signals_drifts signals.FreeSignal t call s is h =
      chosen (nat_eq (argument 0 call) 0xffffffff) _ _ (ends_done t call s.schedule s h.schedule h)
      (refused (free_signal_alert (argument 0 call)) (ByTask t) call _ s h
      (ends_done t call (frees_signal t (argument 0 call) s.schedule) s (frees_stays b.schedule t _ s.schedule h.schedule) h))
  signals_drifts signals.SetSignal t call s is h =
      refused (mask_alert (argument 1 call)) (ByTask t) call _ s h
      (ends_answered t call _ (sets_signals t (argument 0 call) (argument 1 call) s.schedule) s (sets_stays b.schedule t _ _ s.schedule h.schedule) h)
  signals_drifts signals.Signal t call s is h =
      refused (signal_alert (argument 0 call) (argument 1 call) s.scripts) (ByTask t) call _ s h
      (ends_done t call (signalled by_arrival (argument 0 call - 1) (argument 1 call) s.schedule) s (signalled_stays b.schedule _ _ s.schedule h.schedule) h)
  signals_drifts signals.Wait t call s is h =
      refused (mask_alert (argument 0 call)) (ByTask t) call _ s h
      (waited_drifts t call (come_for (argument 0 call) (signals_of s.schedule t)) (after_wait t (argument 0 call) s.schedule) s is
      (after_wait_stays b.schedule t _ s.schedule h.schedule) h)

  gives_drifts : (t : ℕ) (call : Call) (given : Option Nesting) (s : State) → Stays b s → Drifts b (λ m. gives_nesting t call given (placed m s))
  gives_drifts t call given s h =
      let nested_at = record s { schedule = nested t given s.schedule } in
      refused (nest_alert (is_some given)) (ByTask t) call (done t call) nested_at
      (record { schedule = nested_stays b.schedule t given s.schedule h.schedule; scripts = h.scripts; bodies = h.bodies })
      (ends_done t call (nested t given s.schedule) s (nested_stays b.schedule t given s.schedule h.schedule) h)

  nesting_drifts : (word : NestingWord) (t : ℕ) (call : Call) (s : State) → Stays b s → Drifts b (λ m. does_nesting word t call (placed m s))
  unfolding nesting_rules
  nesting_drifts nesting.Forbid t call s h = gives_drifts t call (after_forbid (nesting_of s.schedule t)) s h
  nesting_drifts nesting.Permit t call s h = gives_drifts t call (after_permit (nesting_of s.schedule t)) s h
  nesting_drifts nesting.Disable t call s h = gives_drifts t call (after_disable (nesting_of s.schedule t)) s h
  nesting_drifts nesting.Enable t call s h = gives_drifts t call (after_enable (nesting_of s.schedule t)) s h

  other_drifts : (other t : ℕ) (call : Call) (s : State) → Stays b s → Drifts b (λ m. ends_other other t call (placed m s))
  unfolding dropped done
  other_drifts other t call s h =
      kept _ (done t call (record s { schedule = task_removed other s.schedule })) (λ m. refl)
      (record {
        schedule = removed_stays b.schedule other s.schedule h.schedule;
        scripts = goes_stays b.scripts t call.next s.scripts h.scripts;
        bodies = h.bodies;
      })

  tasks_drifts : (word : TaskWord) (t : ℕ) (call : Call) (s : State) → Stays b s → Drifts b (λ m. does_tasks word t call (placed m s))
  unfolding task_rules
  tasks_drifts tasks.SetTaskPri t call s h =
      let pri = cast_signed w32 (argument 1 call) in
      refused (set_task_pri_alert (argument 0 call) pri s.scripts s.schedule) (ByTask t) call _ s h
      (ends_answered t call _ (reprioritized by_arrival (argument 0 call - 1) pri s.schedule) s (reprioritized_stays b.schedule _ pri s.schedule h.schedule) h)
  tasks_drifts tasks.AddTask t call s h =
      refused (add_task_alert (argument 0 call) s.scripts) (ByTask t) call _ s h
      (ends_answered t call _ (added by_arrival (argument 0 call - 1) s.schedule) s (added_stays b.schedule _ s.schedule h.schedule) h)
  tasks_drifts tasks.RemTask t call s h =
      chosen (is_caller t (argument 0 call)) _ _ (ends_done t call (leaves t s.schedule) s (leaves_stays b.schedule t s.schedule h.schedule) h)
      (refused (live_task_alert (argument 0 call) s.scripts s.schedule) (ByTask t) call _ s h (other_drifts (argument 0 call - 1) t call s h))
  tasks_drifts tasks.FindTask t call s h = ends_answered t call _ s.schedule s h.schedule h

  interrupts_drifts : (word : InterruptWord) (t : ℕ) (call : Call) (s : State) → Stays b s → Drifts b (λ m. does_interrupts word t call (placed m s))
  unfolding does_cause causes done
  interrupts_drifts interrupts.Cause t call s h =
      kept _ (does_cause t call s) (λ m. refl)
      (record { schedule = h.schedule; scripts = goes_stays b.scripts t call.next s.scripts h.scripts; bodies = h.bodies })

  none_such : {A : Type 0} → false ≡ true → A
  none_such e = true_is_not_false (sym e)

  -- a bare word of a task
  pub word_drifts : (word : Word) (t : ℕ) (call : Call) (s : State) → is_bare word ≡ true → call.word ≡ word → Stays b s
      → Drifts b (λ m. does_word word t call (placed m s))
  word_drifts (group.Plain word) t call s bare is h = plain_drifts word t call s h
  word_drifts (group.Signals word) t call s bare is h = signals_drifts word t call s is h
  word_drifts (group.Nesting word) t call s bare is h = nesting_drifts word t call s h
  word_drifts (group.Tasks word) t call s bare is h = tasks_drifts word t call s h
  word_drifts (group.Interrupts word) t call s bare is h = interrupts_drifts word t call s h
  word_drifts (group.Lists word) t call s bare is h = none_such bare
  word_drifts (group.Memory word) t call s bare is h = none_such bare
  word_drifts (group.Ports word) t call s bare is h = none_such bare
  word_drifts (group.Semaphores word) t call s bare is h = none_such bare
  word_drifts (group.Libraries word) t call s bare is h = none_such bare
  word_drifts (group.Requests word) t call s bare is h = none_such bare

  -- ---- the words of bodies

  said_in_body : (name : List ℕ) (call : Call) (r : Schedule) (pending : Pending) (s : State) → StaysSchedule b.schedule r → Stays b s
      → Drifts b (λ m. done_by (ByBody name) call (record (placed m s) { schedule = r; pending = pending }))
  said_in_body name call r pending s ok h =
      kept _ (done_by (ByBody name) call (record s { schedule = r; pending = pending })) (λ m. refl)
      (record { schedule = ok; scripts = h.scripts; bodies = h.bodies })

  silent_in_body : (name : List ℕ) (call : Call) (value : ℕ) (s : State) → Stays b s
      → Drifts b (λ m. silent_by (ByBody name) call value (placed m s))
  silent_in_body name call value s h =
      kept _ (silent_by (ByBody name) call value s) (λ m. refl)
      (record { schedule = h.schedule; scripts = stored_shared_stays b.scripts call.target value s.scripts h.scripts; bodies = h.bodies })

  plain_in_body : (word : PlainWord) (name : List ℕ) (call : Call) (s : State) → Stays b s
      → Drifts b (λ m. does_plain_by word (ByBody name) call (placed m s))
  plain_in_body plain.Set name call s h = silent_in_body name call _ s h
  plain_in_body plain.Add name call s h = silent_in_body name call _ s h
  plain_in_body plain.Sub name call s h = silent_in_body name call _ s h
  plain_in_body plain.And name call s h = silent_in_body name call _ s h
  plain_in_body plain.Or name call s h = silent_in_body name call _ s h
  plain_in_body plain.Print name call s h = said_in_body name call s.schedule s.pending s h.schedule h
  plain_in_body plain.Jump name call s h = ends_quiet s h
  plain_in_body plain.JumpZ name call s h = ends_quiet s h
  plain_in_body plain.JumpNZ name call s h = ends_quiet s h

  signals_in_body : (word : SignalWord) (name : List ℕ) (call : Call) (s : State) → Stays b s
      → Drifts b (λ m. does_signals_by word (ByBody name) call (placed m s))
  signals_in_body signals.Signal name call s h =
      refused (signal_alert (argument 0 call) (argument 1 call) s.scripts) (ByBody name) call _ s h
      (said_in_body name call (signalled by_arrival (argument 0 call - 1) (argument 1 call) s.schedule) s.pending s
      (signalled_stays b.schedule _ _ s.schedule h.schedule) h)
  signals_in_body signals.AllocSignal name call s h = ends_quiet s h
  signals_in_body signals.FreeSignal name call s h = ends_quiet s h
  signals_in_body signals.SetSignal name call s h = ends_quiet s h
  signals_in_body signals.Wait name call s h = ends_quiet s h

  interrupts_in_body : (word : InterruptWord) (name : List ℕ) (call : Call) (s : State) → Stays b s
      → Drifts b (λ m. does_interrupts_by word (ByBody name) call (placed m s))
  unfolding causes
  interrupts_in_body interrupts.Cause name call s h =
      kept _ (does_cause_by (ByBody name) call s) (λ m. refl) (record { schedule = h.schedule; scripts = h.scripts; bodies = h.bodies })

  -- a bare word of a body
  pub word_in_body : (word : Word) (name : List ℕ) (call : Call) (s : State) → is_bare word ≡ true → Stays b s
      → Drifts b (λ m. does_word_by word (ByBody name) call (placed m s))
  word_in_body (group.Plain word) name call s bare h = plain_in_body word name call s h
  word_in_body (group.Signals word) name call s bare h = signals_in_body word name call s h
  word_in_body (group.Interrupts word) name call s bare h = interrupts_in_body word name call s h
  word_in_body (group.Nesting word) name call s bare h = ends_quiet s h
  word_in_body (group.Tasks word) name call s bare h = ends_quiet s h
  word_in_body (group.Lists word) name call s bare h = none_such bare
  word_in_body (group.Memory word) name call s bare h = none_such bare
  word_in_body (group.Ports word) name call s bare h = none_such bare
  word_in_body (group.Semaphores word) name call s bare h = none_such bare
  word_in_body (group.Libraries word) name call s bare h = none_such bare
  word_in_body (group.Requests word) name call s bare h = none_such bare
