-- A semaphore that changes: by number and by address it is the same one.
use Rattle.std.proofs.Common.{◌≡◌, ℕ, ◌<◌, List, Bool, true, false, drop, length, slice_set, refl, ap, sym, ◌∙◌, Option, Some, None, if◌then◌else◌, nat_eq, ◌&&◌, IsTrue}
use Rattle.execlist.specs.Order.{first}
use Rattle.sigsem.specs.{declared.semaphore.Sem.Sem, Semaphores.Semaphores, Semaphores.free_sem, Semaphores.owned_by, Semaphores.sem_at, Semaphores.waiters_of, Semaphores.with_sem}
use Rattle.sigsem.specs.Semaphores as sems
use Rattle.execmodel.specs.State.{Semaphore, Heap, on_heap}
use Rattle.execmodel.specs.Semaphores as model
use Rattle.execheap.specs.{declared.tag.Kind.Kind, Tags.is_same, Numbered.Numbered, Numbered.object_of, Numbered.places, Numbered.shown_heap, Numbered.shown_memory, Table.number_at, Changes.on_semaphores}
use Rattle.execheap.specs.declared.tag.Kind.TheVariants as variant
use Rattle.execheap.proofs.{Posted.item_known, Posted.none_left, Posted.same_at, Posted.written_at, Relisted.Tells, Relisted.object_replaced, Relisted.sequence_set, Shown.sem_shown, Shown.waiters_shown}

-- ---- other semaphores, and the same blocks

pub heap_owned : (s : Numbered) (q : Semaphores) (heap : Heap) → shown_heap (record s { sems = q }) ≡ heap
    → shown_memory (record s { sems = q }) ≡ on_heap (λ old. heap) (shown_memory s)
heap_owned s q heap is = λ i. record (shown_memory s) { heap = is i }

module _ (s : Numbered) (q : Semaphores) where
  abbrev beside : Numbered
  beside = record s { sems = q }

  -- ---- one semaphore is another, or others wait there

  module _ (n address : ℕ) (sem : Sem) (queue : List ℕ) (sems : (m : ℕ) → sem_at m q ≡ (if nat_eq m n then sem else sem_at m s.sems))
      (queues : (m : ℕ) → waiters_of m q ≡ (if nat_eq m n then queue else waiters_of m s.sems)) where
    either_sem : (b : Bool) (sem other : Sem) (queue rest : List ℕ)
        → Semaphore (if b then sem else other) (if b then queue else rest) ≡ (if b then Semaphore sem queue else Semaphore other rest)
    either_sem true sem other queue rest = refl
    either_sem false sem other queue rest = refl

    sem_set : (k : Kind) (m : ℕ) → object_of k m beside ≡ (if is_same k variant.Semaphore && nat_eq m n then Semaphore sem queue else object_of k m s)
    sem_set variant.Semaphore m =
        (λ i. Semaphore (sems m i) (queues m i)) ∙ either_sem (nat_eq m n) sem (sem_at m s.sems) queue (waiters_of m s.sems)
    sem_set _ m = refl

    pub with_semaphore_shown : Tells s address variant.Semaphore n → shown_heap beside ≡ model.with_semaphore address sem queue (shown_heap s)
    unfolding model.with_semaphore
    with_semaphore_shown told = object_replaced s beside address (Semaphore sem queue) variant.Semaphore n sem_set told refl

-- ---- the changes, if a number begins at an address

module _ (s : Numbered) (n semaphore : ℕ) (found : number_at variant.Semaphore semaphore s.table ≡ Some n) (told : Tells s semaphore variant.Semaphore n) where
  sem_is : model.sem_of semaphore (shown_heap s) ≡ sem_at n s.sems
  sem_is = sem_shown s semaphore n found

  waiters_are : model.waiters_of semaphore (shown_heap s) ≡ waiters_of n s.sems
  waiters_are = waiters_shown s semaphore n found

  -- the tasks that wait there are others
  module _ (known : n < length s.sems.queues) where
    pub queue_heap : (queue : List ℕ) (places : List (Option ℕ))
        → shown_heap (on_semaphores (λ m. record m { queues = slice_set m.queues n queue; places = places }) s)
        ≡ model.with_semaphore semaphore (sem_at n s.sems) queue (shown_heap s)
    queue_heap queue places =
        with_semaphore_shown s (record s.sems { queues = slice_set s.sems.queues n queue; places = places }) n semaphore (sem_at n s.sems) queue
        (same_at (λ m. sem_at m s.sems) n) (λ m. sequence_set s.sems.queues n queue m known) told

  module _ (live : IsTrue (sems.is_sem n s.sems)) where
    -- the semaphore is another one, and the same tasks wait there
    sem_heap : (sem : Sem) → shown_heap (on_semaphores (with_sem n sem) s) ≡ model.with_semaphore semaphore sem (waiters_of n s.sems) (shown_heap s)
    sem_heap sem =
        with_semaphore_shown s (with_sem n sem s.sems) n semaphore sem (waiters_of n s.sems)
        (written_at s.sems.sems.slots n sem free_sem (item_known s.sems.sems.slots n live)) (same_at (λ m. waiters_of m s.sems) n) told

    pub entered_heap : (t : ℕ) → shown_heap (on_semaphores (sems.entered n t) s) ≡ model.entered semaphore t (shown_heap s)
    unfolding model.entered
    entered_heap t =
        sem_heap (sems.once_more t (sem_at n s.sems))
        ∙ (λ i. model.with_semaphore semaphore (sems.once_more t (sym sem_is i)) (sym waiters_are i) (shown_heap s))

    released_once_heap : shown_heap (on_semaphores (with_sem n (sems.once_less (sem_at n s.sems))) s)
        ≡ model.released_once semaphore (shown_heap s)
    unfolding model.released_once
    released_once_heap =
        sem_heap (sems.once_less (sem_at n s.sems))
        ∙ (λ i. model.with_semaphore semaphore (sems.once_less (sym sem_is i)) (sym waiters_are i) (shown_heap s))

    -- a task that may have the semaphore has it, and else nothing changes
    pub attempted_heap : (t : ℕ) → shown_heap (on_semaphores (sems.attempted n t) s) ≡ model.attempted semaphore t (shown_heap s)
    unfolding model.attempted
    attempted_heap t =
        either (sems.is_free_for t (sem_at n s.sems))
        ∙ ap (λ sem. if sems.is_free_for t sem then model.entered semaphore t (shown_heap s) else shown_heap s) (sym sem_is)
      where
        either : (b : Bool) → shown_heap (on_semaphores (λ m. if b then sems.entered n t m else m) s)
            ≡ (if b then model.entered semaphore t (shown_heap s) else shown_heap s)
        either true = entered_heap t
        either false = refl

    -- ---- the last release

    module _ (known : n < length s.sems.queues) where
      -- the first waiter is the owner, or no task is
      handed_to : (o : Option ℕ) → first (waiters_of n s.sems) ≡ o → shown_heap (on_semaphores (sems.handed_on n o) s)
          ≡ model.with_semaphore semaphore (sems.owned_next o) (drop 1 (waiters_of n s.sems)) (shown_heap s)
      handed_to None none =
          sem_heap free_sem ∙ ap (λ queue. model.with_semaphore semaphore free_sem queue (shown_heap s)) (none_left (waiters_of n s.sems) none)
      handed_to (Some t) is =
          with_semaphore_shown s (sems.handed_on n (Some t) s.sems) n semaphore (owned_by t) (drop 1 (waiters_of n s.sems))
          (written_at s.sems.sems.slots n (owned_by t) free_sem (item_known s.sems.sems.slots n live))
          (λ m. sequence_set s.sems.queues n (drop 1 (waiters_of n s.sems)) m known) told

      handed_on_heap : shown_heap (on_semaphores (sems.handed_on n (first (waiters_of n s.sems))) s) ≡ model.handed_on semaphore (shown_heap s)
      unfolding model.handed_on
      handed_on_heap =
          handed_to (first (waiters_of n s.sems)) refl
          ∙ (λ i. model.with_semaphore semaphore (sems.owned_next (first (sym waiters_are i))) (drop 1 (sym waiters_are i)) (shown_heap s))

      pub released_heap : shown_heap (on_semaphores (sems.let_go n) s) ≡ model.released semaphore (shown_heap s)
      unfolding model.released
      released_heap =
          either (sems.is_last (sem_at n s.sems))
          ∙ ap (λ sem. if sems.is_last sem then model.handed_on semaphore (shown_heap s) else model.released_once semaphore (shown_heap s)) (sym sem_is)
        where
          either : (b : Bool)
              → shown_heap (on_semaphores (λ m. if b then sems.handed_on n (first (waiters_of n m)) m else with_sem n (sems.once_less (sem_at n m)) m) s)
              ≡ (if b then model.handed_on semaphore (shown_heap s) else model.released_once semaphore (shown_heap s))
          either true = handed_on_heap
          either false = released_once_heap
