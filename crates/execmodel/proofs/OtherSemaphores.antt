-- Words on semaphores leave the blocks of all other objects as they are.
use Rattle.std.proofs.Common.{inl, ◌≡◌, ◌≢◌, ℕ, Bool, true, false, List, [], Option, None, Some, refl, if◌then◌else◌}
use Rattle.sigsem.specs.{declared.semaphore.Sem.Sem, declared.semaphore.Obtained.Obtained, Semaphores.free_sem, Semaphores.is_free_for, Semaphores.is_last, Semaphores.outcome_for}
use Rattle.sigsem.specs.declared.semaphore.Obtained.TheVariants.{Owner, Waits}
use Rattle.script.specs.declared.word.semaphores.SemaphoreWord.{SemaphoreWord}
use Rattle.script.specs.declared.word.semaphores.SemaphoreWord.TheVariants as semaphores
use Rattle.execmodel.specs.State.{Call, Semaphore, Heap, State, on_memory, on_heap}
use Rattle.execmodel.specs.Semaphores.{is_semaphore, is_semaphore_at, sem_of, with_semaphore, entered, queued, semaphore_size, does_new_sem, free_sem_alert, does_free_sem, obtain_alert, obtained, obtains, is_tried_again, does_obtain_semaphore, attempted, does_attempt_semaphore, release_alert, heir, handed_on, released_once, released, passes, does_release_semaphore, does_semaphores}
use Rattle.execmodel.specs.{Calls.argument, Calls.done, Calls.answered, Calls.waiting, Libraries.is_library_at, Objects.object_at, Objects.is_kind, Step.run, OtherBlocks.SemaphoreWordsLeaveOtherBlocks}
use Rattle.execmodel.proofs.Libraries.{block_elsewhere, block_rid_there}
use Rattle.execmodel.proofs.OtherBlocks.{apart_by, Becomes, BecomesIn, refused_leaves, either_leaves, made_leaves}
use Rattle.execmodel.proofs.{Commands.passed_first, BlocksAfter.is_semaphore_there, BlocksAfter.is_released_there, Posts.IsTidy, NoStraysLaw.tidy_in_every_state}

module _ (s : State) (tidy : IsTidy s) (a : ℕ) (none : is_library_at a s.memory.heap ≡ false)
    (apart : is_kind is_semaphore (object_at a s.memory.heap) ≡ false) where
  apart_semaphore : (semaphore : ℕ) → is_semaphore_at semaphore s.memory.heap ≡ true → a ≢ semaphore
  unfolding is_semaphore_at
  apart_semaphore semaphore is = apart_by is_semaphore a semaphore s.memory.heap apart is

  -- a semaphore gets another owner, another count or other waiting tasks
  owned_leaves : (semaphore : ℕ) (sem : Sem) (waiters : List ℕ) → is_semaphore_at semaphore s.memory.heap ≡ true
      → Becomes is_semaphore a s.memory.heap (with_semaphore semaphore sem waiters s.memory.heap)
  unfolding with_semaphore
  owned_leaves semaphore sem waiters is =
      inl (block_elsewhere a semaphore _ s.memory.heap (apart_semaphore semaphore is))

  either_heap : (test : Bool) (m n : Heap) → Becomes is_semaphore a s.memory.heap m
      → Becomes is_semaphore a s.memory.heap n
      → Becomes is_semaphore a s.memory.heap (if test then m else n)
  either_heap true m n one other = one
  either_heap false m n one other = other

  entered_leaves : (semaphore t : ℕ) → is_semaphore_at semaphore s.memory.heap ≡ true
      → Becomes is_semaphore a s.memory.heap (entered semaphore t s.memory.heap)
  unfolding entered
  entered_leaves semaphore t is = owned_leaves semaphore _ _ is

  queued_leaves : (semaphore t : ℕ) → is_semaphore_at semaphore s.memory.heap ≡ true
      → Becomes is_semaphore a s.memory.heap (queued semaphore t s.memory.heap)
  unfolding queued
  queued_leaves semaphore t is = owned_leaves semaphore _ _ is

  obtained_leaves : (semaphore t : ℕ) → is_semaphore_at semaphore s.memory.heap ≡ true
      → Becomes is_semaphore a s.memory.heap (obtained semaphore t s.memory.heap)
  unfolding obtained
  obtained_leaves semaphore t is =
      either_heap (is_free_for t (sem_of semaphore s.memory.heap)) (entered semaphore t s.memory.heap)
      (queued semaphore t s.memory.heap)
      (entered_leaves semaphore t is) (queued_leaves semaphore t is)

  attempted_leaves : (semaphore t : ℕ) → is_semaphore_at semaphore s.memory.heap ≡ true
      → Becomes is_semaphore a s.memory.heap (attempted semaphore t s.memory.heap)
  unfolding attempted
  attempted_leaves semaphore t is =
      either_heap (is_free_for t (sem_of semaphore s.memory.heap)) (entered semaphore t s.memory.heap) s.memory.heap
      (entered_leaves semaphore t is) (inl refl)

  handed_leaves : (semaphore : ℕ) → is_semaphore_at semaphore s.memory.heap ≡ true
      → Becomes is_semaphore a s.memory.heap (handed_on semaphore s.memory.heap)
  unfolding handed_on
  handed_leaves semaphore is = owned_leaves semaphore _ _ is

  once_leaves : (semaphore : ℕ) → is_semaphore_at semaphore s.memory.heap ≡ true
      → Becomes is_semaphore a s.memory.heap (released_once semaphore s.memory.heap)
  unfolding released_once
  once_leaves semaphore is = owned_leaves semaphore _ _ is

  released_leaves : (semaphore : ℕ) → is_semaphore_at semaphore s.memory.heap ≡ true
      → Becomes is_semaphore a s.memory.heap (released semaphore s.memory.heap)
  unfolding released
  released_leaves semaphore is =
      either_heap (is_last (sem_of semaphore s.memory.heap)) (handed_on semaphore s.memory.heap)
      (released_once semaphore s.memory.heap)
      (handed_leaves semaphore is) (once_leaves semaphore is)

  -- how such a call ends is another matter
  obtains_leaves : (how : Obtained) (semaphore t : ℕ) (call : Call) (r : State) → BecomesIn s tidy a none is_semaphore r
      → BecomesIn s tidy a none is_semaphore (obtains how semaphore t call r).state
  unfolding done waiting
  obtains_leaves Owner semaphore t call r becomes = becomes
  obtains_leaves Waits semaphore t call r becomes = becomes

  passes_leaves : (owner : Option ℕ) (semaphore t : ℕ) (call : Call) (r : State)
      → BecomesIn s tidy a none is_semaphore r
      → BecomesIn s tidy a none is_semaphore (passes owner semaphore t call r).state
  unfolding done
  passes_leaves None semaphore t call r becomes = becomes
  passes_leaves (Some owner) semaphore t call r becomes = becomes

  semaphore_leaves : (word : SemaphoreWord) (t : ℕ) (call : Call)
      → BecomesIn s tidy a none is_semaphore (does_semaphores word t call s).state
  unfolding does_new_sem does_free_sem does_obtain_semaphore does_attempt_semaphore does_release_semaphore free_sem_alert answered done
  semaphore_leaves semaphores.NewSem t call =
      made_leaves s tidy a none is_semaphore is_semaphore semaphore_size (Semaphore free_sem []) refl
  semaphore_leaves semaphores.FreeSem t call =
      let semaphore = argument 0 call in
      refused_leaves s tidy a none is_semaphore (free_sem_alert semaphore s.memory.heap) t call _
      (λ passes. inl (block_rid_there a semaphore s.memory.heap
      (apart_semaphore semaphore (passed_first (is_semaphore_at semaphore s.memory.heap) _ _ passes).0)))
  semaphore_leaves semaphores.ObtainSemaphore t call =
      let semaphore = argument 0 call in
      either_leaves s tidy a none is_semaphore (is_tried_again t s.scripts) _ _ (inl refl)
      (refused_leaves s tidy a none is_semaphore (obtain_alert t semaphore s.memory.heap) t call _
      (λ passes. obtains_leaves (outcome_for t (sem_of semaphore s.memory.heap)) semaphore t call
      (on_memory (on_heap (obtained semaphore t)) s)
      (obtained_leaves semaphore t (is_semaphore_there t semaphore s.memory.heap passes))))
  semaphore_leaves semaphores.AttemptSemaphore t call =
      let semaphore = argument 0 call in
      refused_leaves s tidy a none is_semaphore (obtain_alert t semaphore s.memory.heap) t call _
      (λ passes. attempted_leaves semaphore t (is_semaphore_there t semaphore s.memory.heap passes))
  semaphore_leaves semaphores.ReleaseSemaphore t call =
      let semaphore = argument 0 call in
      refused_leaves s tidy a none is_semaphore (release_alert t semaphore s.memory.heap) t call _
      (λ none. passes_leaves (heir semaphore s.memory.heap) semaphore t call
      (on_memory (on_heap (released semaphore)) s)
      (released_leaves semaphore (is_released_there t semaphore s.memory.heap none)))

pub semaphore_words_leave_other_blocks : SemaphoreWordsLeaveOtherBlocks
semaphore_words_leave_other_blocks word t call machine list is = record {
  others = λ a apart none.
      semaphore_leaves (run machine list).state (tidy_in_every_state machine list is) a none apart word t call;
}
