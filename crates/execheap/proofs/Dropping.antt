-- A task that waits for no semaphore any more, and one that begins to wait: by number and by address it is the same.
use Rattle.std.proofs.Common.{◌≡◌, ℕ, ◌<◌, [], ◌∷◌, ◌++◌, Bool, true, false, map, length, refl, ap, sym, ◌∙◌, arith, Option, Some, None, if◌then◌else◌, slice_set, ◌==◌, IsTrue}
use Rattle.std.specs.List.{list_any}
use Rattle.std.proofs.Math.Path.{fun_ext}
use Rattle.std.proofs.lemmas.Simd.{map-map}
use Rattle.execlist.specs.{Order.without_item, Lists.is_at, Lists.times, Pool.slot}
use Rattle.execlist.proofs.Pools.{item_of}
use Rattle.memlist.proofs.Answered.{nat_eq-other, nat_eq-same}
use Rattle.sigsem.specs.Semaphores as sems
use Rattle.sigsem.specs.Semaphores.{Semaphores, dropped_from, sem_at, waiters_of, waits_at}
use Rattle.memlist.specs.Memory.{IsWellFormed}
use Rattle.execmodel.specs.{State.Object, State.Semaphore, State.Block, State.on_heap, Semaphores.left_by_task}
use Rattle.execmodel.specs.Semaphores as model
use Rattle.execheap.specs.Numbered.{Numbered, IsSoundHeap, object_of, shown_entry, shown_heap, shown_memory, shown_tagged, places}
use Rattle.execheap.specs.{declared.tag.Kind.Kind, declared.tag.Tagged.Tagged, Tags.tagged, Table.number_at, Table.pool_of, Changes.on_semaphores}
use Rattle.execheap.specs.declared.tag.Kind.TheVariants as variant
use Rattle.execheap.specs.declared.tag.Tagged.TheVariants as tag
use Rattle.execheap.proofs.{Mapped.stands_by_times, Mapped.without_absent, Owning.attempted_heap, Owning.entered_heap, Owning.heap_owned, Owning.queue_heap, Owning.released_heap, Posted.item_known, Relisted.Tells, Relisted.sequence_set, Matching.number_live, Shown.sem_shown, Shown.tells, Shown.waiters_shown, Stepping.shape_lives, Tagging.either_number}

-- ---- the queues without a task

module _ {m : Semaphores} (held : sems.IsSoundSemaphores m) (t : ℕ) where
  -- a task is in the queue if it waits, and in no other
  stands_where : (k : ℕ) → list_any (λ other. other == t) (waiters_of k m) ≡ is_at (waits_at t m) k
  stands_where k = stands_by_times t (waiters_of k m) (is_at (waits_at t m) k) (held.stands k t)

  queue_known : (j : ℕ) → waits_at t m ≡ Some j → j < length m.queues
  queue_known j waits = omega (arith, held.each_queue, item_known m.sems.slots j (held.live t j waits))

  -- leaving a task out of every queue takes it from the one that has it
  waiters_from : (o : Option ℕ) → waits_at t m ≡ o → (k : ℕ) → waiters_of k (dropped_from o t m) ≡ without_item t (waiters_of k m)
  waiters_from None none k = sym (without_absent t (waiters_of k m) (stands_where k ∙ ap (λ o. is_at o k) none))
  waiters_from (Some j) waits k =
      sequence_set m.queues j (without_item t (waiters_of j m)) k (queue_known j waits)
      ∙ either_number k j (λ b. (if b then without_item t (waiters_of j m) else waiters_of k m) ≡ without_item t (waiters_of k m))
      (λ same. ap (λ i. without_item t (waiters_of i m)) (sym same))
      (λ other. sym (without_absent t (waiters_of k m)
      (stands_where k ∙ ap (λ o. is_at o k) waits ∙ nat_eq-other j k (λ same. other (sym same)))))

  pub waiters_without : (k : ℕ) → waiters_of k (sems.dropped t m) ≡ without_item t (waiters_of k m)
  waiters_without k = waiters_from (waits_at t m) refl k

  -- the semaphores stay as they are
  sem_from : (o : Option ℕ) (k : ℕ) → sem_at k (dropped_from o t m) ≡ sem_at k m
  sem_from None k = refl
  sem_from (Some j) k = refl

  pub sem_beside : (k : ℕ) → sem_at k (sems.dropped t m) ≡ sem_at k m
  sem_beside k = sem_from (waits_at t m) k

-- ---- a task that is dropped

module _ (s : Numbered) (held : sems.IsSoundSemaphores s.sems) (t : ℕ) where
  abbrev without_task : Numbered
  without_task = on_semaphores (sems.dropped t) s

  object_dropped : (k : Kind) (m : ℕ) → object_of k m without_task ≡ left_by_task t (object_of k m s)
  object_dropped variant.Semaphore m = λ i. Semaphore (sem_beside held t m i) (waiters_without held t m i)
  object_dropped _ m = refl

  shown_dropped : (x : Tagged) → shown_tagged without_task x ≡ left_by_task t (shown_tagged s x)
  shown_dropped (tag.Object k m) = object_dropped k m
  shown_dropped _ = refl

  pub dropped_heap : shown_heap without_task ≡ model.dropped t (shown_heap s)
  unfolding shown_heap model.dropped
  dropped_heap =
      ap (λ (f : ℕ × (ℕ × ℕ) → ℕ × Block). map f s.table.memory.blocks)
      (fun_ext (λ (entry : ℕ × (ℕ × ℕ)). ap (λ (object : Object). (entry.0, record { size = entry.1.0; object = object })) (shown_dropped (tagged entry.1.1))))
      ∙ sym (map-map (λ (entry : ℕ × Block). (entry.0, record entry.1 { object = left_by_task t entry.1.object })) (shown_entry s) s.table.memory.blocks)

-- ---- a task that waits, or has the semaphore at once

module _ (s : Numbered) (n semaphore : ℕ) (found : number_at variant.Semaphore semaphore s.table ≡ Some n) (told : Tells s semaphore variant.Semaphore n)
    (live : IsTrue (sems.is_sem n s.sems)) (known : n < length s.sems.queues) (t : ℕ) where
  queued_heap : shown_heap (on_semaphores (sems.queued n t) s) ≡ model.queued semaphore t (shown_heap s)
  unfolding model.queued
  queued_heap =
      queue_heap s n semaphore found told known (waiters_of n s.sems ++ t ∷ []) (slice_set s.sems.places t (Some n))
      ∙ (λ i. model.with_semaphore semaphore (sym (sem_shown s semaphore n found) i) (sym (waiters_shown s semaphore n found) i ++ t ∷ []) (shown_heap s))

  pub obtained_heap : shown_heap (on_semaphores (sems.obtained n t) s) ≡ model.obtained semaphore t (shown_heap s)
  unfolding model.obtained
  obtained_heap =
      either (sems.is_free_for t (sems.sem_at n s.sems))
      ∙ ap (λ sem. if sems.is_free_for t sem then model.entered semaphore t (shown_heap s) else model.queued semaphore t (shown_heap s))
      (sym (sem_shown s semaphore n found))
    where
      either : (b : Bool) → shown_heap (on_semaphores (λ m. if b then sems.entered n t m else sems.queued n t m) s)
          ≡ (if b then model.entered semaphore t (shown_heap s) else model.queued semaphore t (shown_heap s))
      either true = entered_heap s n semaphore found told live t
      either false = queued_heap

-- ---- a task that is in no queue

module _ {s : Numbered} (sound : IsSoundHeap s) (held : sems.IsSoundSemaphores s.sems) (t : ℕ) where
  -- a semaphore that lives begins at an address
  begins_there : (k : ℕ) → IsTrue (sems.is_sem k s.sems) → (a : ℕ) × (slot (places variant.Semaphore s) k ≡ Some a)
  begins_there k lives =
      item_of (slot (places variant.Semaphore s) k)
      (shape_lives (pool_of variant.Semaphore s.table) s.sems.sems (sound.kept.in_step variant.Semaphore) k ∙ lives)

  pub waits_at_none : ((a : ℕ) → times t (model.waiters_of a (shown_heap s)) ≡ 0) → waits_at t s.sems ≡ None
  waits_at_none nowhere = by_place (waits_at t s.sems) refl
    where
      by_place : (o : Option ℕ) → waits_at t s.sems ≡ o → o ≡ None
      by_place None at = refl
      by_place (Some k) at =
          let there = begins_there k (held.live t k at) in
          let shown = waiters_shown s there.0 k (number_live sound.table variant.Semaphore k there.0 there.1) in
          let once : times t (waiters_of k s.sems) ≡ 1 =
          held.stands k t ∙ ap (λ o. if is_at o k then 1 else 0) at ∙ ap (λ b. if b then 1 else 0) (nat_eq-same k) in
          let none : times t (waiters_of k s.sems) ≡ 0 = ap (times t) (sym shown) ∙ nowhere there.0 in
          absurd (omega (arith, once, none))

-- ---- the memory that is shown

module _ (s : Numbered) (held : sems.IsSoundSemaphores s.sems) (t : ℕ) where
  pub dropped_shown : shown_memory (on_semaphores (sems.dropped t) s) ≡ on_heap (model.dropped t) (shown_memory s)
  dropped_shown = heap_owned s (sems.dropped t s.sems) (model.dropped t (shown_heap s)) (dropped_heap s held t)

module _ {s : Numbered} (sound : IsSoundHeap s) (held : sems.IsSoundSemaphores s.sems) (formed : IsWellFormed s.table.memory.regions s.table.memory.blocks) where
  module _ (n semaphore : ℕ) (here : slot (places variant.Semaphore s) n ≡ Some semaphore) (live : IsTrue (sems.is_sem n s.sems)) where
    begins : number_at variant.Semaphore semaphore s.table ≡ Some n
    begins = number_live sound.table variant.Semaphore n semaphore here

    just_there : Tells s semaphore variant.Semaphore n
    just_there = tells sound.table formed variant.Semaphore n semaphore here

    has_queue : n < length s.sems.queues
    has_queue = omega (arith, held.each_queue, item_known s.sems.sems.slots n live)

    pub obtained_shown : (t : ℕ) → shown_memory (on_semaphores (sems.obtained n t) s) ≡ on_heap (model.obtained semaphore t) (shown_memory s)
    obtained_shown t = heap_owned s (sems.obtained n t s.sems) (model.obtained semaphore t (shown_heap s))
        (obtained_heap s n semaphore begins just_there live has_queue t)

    pub attempted_shown : (t : ℕ) → shown_memory (on_semaphores (sems.attempted n t) s) ≡ on_heap (model.attempted semaphore t) (shown_memory s)
    attempted_shown t = heap_owned s (sems.attempted n t s.sems) (model.attempted semaphore t (shown_heap s))
        (attempted_heap s n semaphore begins just_there live t)

    pub released_shown : shown_memory (on_semaphores (sems.let_go n) s) ≡ on_heap (model.released semaphore) (shown_memory s)
    released_shown = heap_owned s (sems.let_go n s.sems) (model.released semaphore (shown_heap s))
        (released_heap s n semaphore begins just_there live has_queue)
