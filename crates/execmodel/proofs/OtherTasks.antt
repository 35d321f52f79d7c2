-- Words on tasks leave the blocks as they are, but for the tasks that wait for semaphores.
use Rattle.std.proofs.Common.{◌≡◌, ℕ, Bool, true, false, [], ◌∷◌, Option, None, Some, refl, ap, ◌∙◌, ◌-◌, if◌then◌else◌}
use Rattle.std.specs.Int.{cast_signed, w32}
use Rattle.scheduler.specs.Schedule.{task_removed}
use Rattle.script.specs.declared.alert.Alert.{Alert}
use Rattle.script.specs.declared.word.tasks.TaskWord.{TaskWord}
use Rattle.script.specs.declared.word.tasks.TaskWord.TheVariants as tasks
use Rattle.execmodel.specs.State.{Call, Object, Semaphore, Heap, State, Outcome, on_memory, on_heap, on_schedule}
use Rattle.execmodel.specs.{Calls.argument, Calls.alerted, Calls.done, Calls.answered, Calls.unless, Semaphores.awaited_by, Semaphores.dropped, Semaphores.left_by_task, Semaphores.leaving_queue, Tasks.is_caller, Tasks.live_task_alert, Tasks.set_task_pri_alert, Tasks.add_task_alert, Tasks.ends_other, Tasks.does_set_task_pri, Tasks.does_add_task, Tasks.does_rem_task, Tasks.does_find_task, Tasks.does_tasks, OtherBlocks.without_waiters, OtherBlocks.without_queues, OtherBlocks.TaskWordsLeaveOtherBlocks}

left_alike : (t : ℕ) (object : Object) → without_waiters (left_by_task t object) ≡ without_waiters object
left_alike t (Semaphore sem waiters) = refl
left_alike t _ = refl

-- a task leaves the queue that it waits in
dropped_alike : (t : ℕ) (heap : Heap) → without_queues (dropped t heap) ≡ without_queues heap
unfolding dropped
dropped_alike t [] = refl
dropped_alike t (entry ∷ rest) =
    ap (λ (object : Object). (entry.0, record entry.1 { object = object }) ∷ without_queues (dropped t rest))
    (left_alike t entry.1.object)
    ∙ ap (λ heap. (entry.0, record entry.1 { object = without_waiters entry.1.object }) ∷ heap) (dropped_alike t rest)

module _ (s : State) where
  -- two states have the same blocks beside the queues
  abbrev IsAlike : State → Type 0
  IsAlike r = without_queues r.memory.heap ≡ without_queues s.memory.heap

  refused_alike : (alert : Option Alert) (t : ℕ) (call : Call) (effect : State → Outcome) → IsAlike (effect s).state
      → IsAlike (unless alert t call effect s).state
  unfolding alerted
  refused_alike None t call effect passing = passing
  refused_alike (Some code) t call effect passing = refl

  either_alike : (test : Bool) (o p : Outcome) → IsAlike o.state → IsAlike p.state
      → IsAlike (if test then o else p).state
  either_alike true o p one other = one
  either_alike false o p one other = other

  leaving_alike : (found : Option ℕ) (other : ℕ) (o : Outcome) → IsAlike o.state
      → IsAlike (leaving_queue found other o).state
  leaving_alike None other o alike = alike
  leaving_alike (Some semaphore) other o alike = alike

  ended_alike : (other t : ℕ) (call : Call) → IsAlike (ends_other other t call s).state
  unfolding done
  ended_alike other t call =
      leaving_alike (awaited_by other s.memory.heap) other
      (done t call (on_schedule (task_removed other) (on_memory (on_heap (dropped other)) s)))
      (dropped_alike other s.memory.heap)

  task_alike : (word : TaskWord) (t : ℕ) (call : Call) → IsAlike (does_tasks word t call s).state
  unfolding does_set_task_pri does_add_task does_rem_task does_find_task answered done
  task_alike tasks.SetTaskPri t call =
      refused_alike
      (set_task_pri_alert (argument 0 call) (cast_signed w32 (argument 1 call)) s.scripts s.schedule) t call _ refl
  task_alike tasks.AddTask t call = refused_alike (add_task_alert (argument 0 call) s.scripts) t call _ refl
  task_alike tasks.RemTask t call =
      let number = argument 0 call in
      either_alike (is_caller t number) _ _ refl
      (refused_alike (live_task_alert number s.scripts s.schedule) t call (ends_other (number - 1) t call)
      (ended_alike (number - 1) t call))
  task_alike tasks.FindTask t call = refl

pub task_words_leave_other_blocks : TaskWordsLeaveOtherBlocks
task_words_leave_other_blocks word t call s = task_alike s word t call
