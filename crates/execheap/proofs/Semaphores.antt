-- Semaphores made and freed.
use Rattle.std.proofs.Common.{◌≡◌, ◌≢◌, ℕ, [], refl, ap, ◌∙◌, arith, Some, None, is_some, unwrap_or, not, length, slice_set, IsTrue}
use Rattle.execlist.specs.Pool.{next_number, slot}
use Rattle.execlist.proofs.Pools.{slot_other, slot_same}
use Rattle.sigsem.specs.Semaphores as sems
use Rattle.sigsem.specs.Semaphores.{free_sem, sem_at, sem_freed, sem_made, waiters_of}
use Rattle.execmodel.specs.{State.Semaphore, Memory.freed, Memory.placed}
use Rattle.execheap.specs.{declared.tag.Kind.Kind, Tags.kind_code, Table.Tabled, Numbered.Numbered, Numbered.IsKept, Numbered.object_of, Numbered.own_shape, Numbered.places, Numbered.shape, Numbered.shown_memory}
use Rattle.execheap.specs.declared.tag.Kind.TheVariants as variant
use Rattle.execheap.proofs.Made.{IsMade, IsFreed, not_new, apart, kept_new, shown_new, own_next, own_known, own_vacant, own_slots, own_given, apart_left, kept_left, shown_left, own_lives, own_released}
use Rattle.execheap.proofs.{Beside.objects_kept, Beside.public_kept, Beside.timer_kept, Front.front, InTime.along_same}

abbrev changed : Numbered → Tabled → sems.Semaphores → Numbered
changed s t q = record s { table = t; sems = q }

-- only semaphores have numbers of their own that change
same : (s : Numbered) (t : Tabled) (q : sems.Semaphores) → t.pool ≡ s.table.pool → (k : Kind) → kind_code k ≢ kind_code variant.Semaphore → own_shape k (changed s t q) ≡ own_shape k s
same s t q pool variant.Semaphore ne = absurd (ne refl)
same s t q pool variant.Message ne = ap (λ m. Some (shape (front m s.ports.messages))) pool
same s t q pool _ ne = refl

module _ {s : Numbered} {n a : ℕ} {t : Tabled} (q : sems.Semaphores) where
  module _ (made : IsMade variant.Semaphore s n a t) where
    -- the semaphores give the number that the table gives
    pub sem_next : next_number s.sems.sems ≡ Some n
    sem_next = own_next made s.sems.sems (made.kept.in_step variant.Semaphore)

    module _ (is : q ≡ sem_made s.sems) where
      pub sem_made_kept : IsKept (changed s t q)
      sem_made_kept = kept_new made (changed s t q) refl refl refl (same s t q (ap (λ u. u.pool) made.is))
          (ap (λ (r : sems.Semaphores). shape r.sems) is ∙ own_given made s.sems.sems (made.kept.in_step variant.Semaphore) free_sem)
          (record { own_signals = made.kept.apt.own_signals; each_task = ap (λ (r : sems.Semaphores). length r.places) is ∙ made.kept.apt.each_task })
          (along_same refl refl refl)

      slots : q.sems.slots ≡ slice_set s.sems.sems.slots n (Some free_sem)
      slots = ap (λ (r : sems.Semaphores). r.sems.slots) is ∙ own_slots made s.sems.sems (made.kept.in_step variant.Semaphore) free_sem

      pub sem_made_shown : sems.IsSoundSemaphores s.sems → shown_memory (changed s t q) ≡ placed 46 (Semaphore free_sem []) (Some a) (shown_memory s)
      sem_made_shown held = shown_new made (changed s t q) (Semaphore free_sem []) refl refl others here
          (public_kept s (changed s t q) (apart made variant.Port (omega arith)) refl refl) (timer_kept s (changed s t q) (apart made variant.Request (omega arith)) refl)
        where
          others : (k : Kind) (m b : ℕ) → slot (places k s) m ≡ Some b → object_of k m (changed s t q) ≡ object_of k m s
          others variant.Semaphore m b lives = λ i. Semaphore
              (unwrap_or ((ap (λ xs. slot xs m) slots ∙ slot_other s.sems.sems.slots n m (Some free_sem) (not_new made m (ap is_some lives))) i) free_sem)
              (waiters_of m (is i))
          others variant.List m b lives = objects_kept s t (apart made variant.Node (omega arith)) (apart made variant.Message (omega arith)) (apart made variant.Request (omega arith)) variant.List m
          others variant.Port m b lives = objects_kept s t (apart made variant.Node (omega arith)) (apart made variant.Message (omega arith)) (apart made variant.Request (omega arith)) variant.Port m
          others _ m b lives = refl

          here : object_of variant.Semaphore n (changed s t q) ≡ Semaphore free_sem []
          here = λ i. Semaphore (unwrap_or ((ap (λ xs. slot xs n) slots
              ∙ slot_same s.sems.sems.slots n (Some free_sem) (own_known made s.sems.sems (made.kept.in_step variant.Semaphore))) i) free_sem)
              ((ap (waiters_of n) is ∙ held.unwanted n (ap (λ o. not (is_some (unwrap_or o free_sem).owner))
              (own_vacant made s.sems.sems (made.kept.in_step variant.Semaphore)))) i)

  module _ (gone : IsFreed variant.Semaphore s n a t) where
    pub sem_lives : IsTrue (sems.is_sem n s.sems)
    sem_lives = own_lives gone s.sems.sems (gone.kept.in_step variant.Semaphore)

    module _ (is : q ≡ sem_freed n s.sems) where
      pub sem_freed_kept : IsKept (changed s t q)
      sem_freed_kept = kept_left gone (changed s t q) refl refl refl (same s t q (ap (λ u. u.pool) gone.is))
          (ap (λ (r : sems.Semaphores). shape r.sems) is ∙ own_released gone s.sems.sems (gone.kept.in_step variant.Semaphore)) tt
          (record { own_signals = gone.kept.apt.own_signals; each_task = ap (λ (r : sems.Semaphores). length r.places) is ∙ gone.kept.apt.each_task })
          (along_same refl refl refl)

      pub sem_freed_shown : shown_memory (changed s t q) ≡ freed a (shown_memory s)
      sem_freed_shown = shown_left gone (changed s t q) refl refl others
          (public_kept s (changed s t q) (apart_left gone variant.Port (omega arith)) refl refl) (timer_kept s (changed s t q) (apart_left gone variant.Request (omega arith)) refl)
        where
          others : (k : Kind) (m b : ℕ) → (k ≡ variant.Semaphore → m ≢ n) → slot (places k s) m ≡ Some b → object_of k m (changed s t q) ≡ object_of k m s
          others variant.Semaphore m b other lives =
              ap (λ r. Semaphore (sem_at m r) (waiters_of m r)) is
              ∙ ap (λ o. Semaphore (unwrap_or o free_sem) (waiters_of m s.sems)) (slot_other s.sems.sems.slots n m None (other refl))
          others variant.List m b other lives = objects_kept s t (apart_left gone variant.Node (omega arith)) (apart_left gone variant.Message (omega arith)) (apart_left gone variant.Request (omega arith)) variant.List m
          others variant.Port m b other lives = objects_kept s t (apart_left gone variant.Node (omega arith)) (apart_left gone variant.Message (omega arith)) (apart_left gone variant.Request (omega arith)) variant.Port m
          others _ m b other lives = refl
