-- Signal semaphores (RKM Libraries, Exec Semaphores). A semaphore has an owner or none, a count of how often the owner
-- has to release it, and the tasks that wait for it, in order of request. An address at which no semaphore begins is
-- the alert HANDLE; a semaphore that is owned where it must not be, is not owned by the caller where it must be, or
-- would be obtained too often, is the alert SEM (project rule).
use Rattle.std.specs.Prelude.{ℕ, ◌==◌, Bool, true, false, not, if◌then◌else◌, is_some, drop, find, map, codes, List, [], ◌∷◌, ◌++◌, Option, None, Some, ⊤, option_map}
use Rattle.std.specs.List.{list_any}
use Rattle.execlist.specs.{Order.first, Order.without_item, Disciplines.by_arrival}
use Rattle.scheduler.specs.{Schedule.waits_at_semaphore, Dispatch.arrives}
use Rattle.sigsem.specs.declared.semaphore.Obtained.TheVariants.{Owner, Waits}
use Rattle.sigsem.specs.Semaphores.{free_sem, is_last, is_free_for, is_owned, is_owner, is_too_deep, once_less, once_more, outcome_for, owned_next}
use Rattle.sigsem.specs.{declared.semaphore.Sem.Sem, declared.semaphore.Obtained.Obtained}
use Rattle.script.specs.declared.word.semaphores.SemaphoreWord.{SemaphoreWord}
use Rattle.script.specs.declared.word.semaphores.SemaphoreWord.TheVariants as word
use Rattle.execmodel.specs.State.{Call, Scripts, Object, Semaphore, Block, Heap, State, Outcome, asked, passed, left, leaving, program_of, on_schedule, on_memory, on_heap}
use Rattle.execmodel.specs.{Calls.argument, Calls.done, Calls.answered, Calls.waiting, Calls.unless, LowMemory.after_asking_for_object, Memory.makes_object, Memory.freed, Objects.object_at, Objects.is_kind, Objects.replaced}
use Rattle.script.specs.declared.alert.Alert.TheVariants as an_alert
use Rattle.script.specs.declared.alert.Alert.{Alert}

-- ---- semaphores in memory

-- the object is a semaphore
abbrev pub is_semaphore : Object → Bool
is_semaphore (Semaphore sem waiters) = true
is_semaphore _ = false

-- a semaphore begins at an address
unfoldable pub is_semaphore_at : ℕ → Heap → Bool
is_semaphore_at address heap = is_kind is_semaphore (object_at address heap)

-- the owner and the count of a semaphore, those of a free one for another object
abbrev pub sem_in : Object → Sem
sem_in (Semaphore sem waiters) = sem
sem_in _ = free_sem

-- the owner and the count of what begins at an address
abbrev pub sem_of_object : Option Object → Sem
sem_of_object None = free_sem
sem_of_object (Some object) = sem_in object

-- the owner, if there is one, and the count of the semaphore that begins at an address (RKM Libraries, Exec Semaphores)
unfoldable pub sem_of : ℕ → Heap → Sem
sem_of semaphore heap = sem_of_object (object_at semaphore heap)

-- the tasks that wait for a semaphore, none for another object
abbrev pub waiters_in : Object → List ℕ
waiters_in (Semaphore sem waiters) = waiters
waiters_in _ = []

-- the tasks that wait for what begins at an address
abbrev pub waiters_of_object : Option Object → List ℕ
waiters_of_object None = []
waiters_of_object (Some object) = waiters_in object

-- the tasks that wait for the semaphore that begins at an address
unfoldable pub waiters_of : ℕ → Heap → List ℕ
waiters_of semaphore heap = waiters_of_object (object_at semaphore heap)

-- what begins at an address becomes that semaphore, with these waiting tasks
unfoldable pub with_semaphore : ℕ → Sem → List ℕ → Heap → Heap
with_semaphore address sem waiters heap = map (replaced address (Semaphore sem waiters)) heap

-- the alert of a call on a semaphore: HANDLE if none begins there
unfoldable pub semaphore_alert : ℕ → Heap → Option Alert
semaphore_alert semaphore heap = if not (is_semaphore_at semaphore heap) then Some an_alert.Handle else None

-- ---- owners

-- task t owns the semaphore, and has to release it once more than before (autodoc ObtainSemaphore)
unfoldable pub entered : ℕ → ℕ → Heap → Heap
entered semaphore t heap = with_semaphore semaphore (once_more t (sem_of semaphore heap)) (waiters_of semaphore heap) heap

-- ---- waiting tasks

-- task t no longer waits for a semaphore; another object stays as it is
abbrev pub left_by_task : ℕ → Object → Object
left_by_task t (Semaphore sem waiters) = Semaphore sem (without_item t waiters)
left_by_task t object = object

-- task t waits for no semaphore; the other tasks keep their order
unfoldable pub dropped : ℕ → Heap → Heap
dropped t heap = map (λ (entry : ℕ × Block). (entry.0, record entry.1 { object = left_by_task t entry.1.object })) heap

-- task t waits for the semaphore, after those that wait for it already (autodoc ObtainSemaphore)
unfoldable pub queued : ℕ → ℕ → Heap → Heap
queued semaphore t heap = with_semaphore semaphore (sem_of semaphore heap) (waiters_of semaphore heap ++ t ∷ []) heap

-- an entry of the heap is a semaphore for which task t waits
abbrev pub has_waiter : ℕ → ℕ × Block → Bool
has_waiter t entry = list_any (λ other. other == t) (waiters_in entry.1.object)

-- the address of the semaphore that task t waits for, if it waits for one
abbrev pub awaited_by : ℕ → Heap → Option ℕ
awaited_by t heap = option_map (λ (entry : ℕ × Block). entry.0) (find (has_waiter t) heap)

-- the mark of a removed task that waited for a semaphore; none if it waited for no semaphore
abbrev pub leaving_queue : Option ℕ → ℕ → Outcome → Outcome
leaving_queue None t o = o
leaving_queue (Some semaphore) t o = leaving (left semaphore t) o

-- ---- making and freeing

-- the size of a semaphore in bytes: Exec's SignalSemaphore (include file exec/semaphores.h)
abbrev pub semaphore_size : ℕ
semaphore_size = 46

-- NewSem: returns the address of a new semaphore, which no task owns, or 0 if it cannot be made (autodoc
-- exec.library/InitSemaphore; that it takes the memory: project rule)
unfoldable pub does_new_sem : ℕ → Call → State → Outcome
does_new_sem t call s =
    makes_object t call is_semaphore semaphore_size (Semaphore free_sem []) (on_memory (after_asking_for_object is_semaphore semaphore_size) s)

-- the alert of a call that frees a semaphore: HANDLE if none begins there, SEM if a task owns it
unfoldable pub free_sem_alert : ℕ → Heap → Option Alert
free_sem_alert semaphore heap =
    if not (is_semaphore_at semaphore heap) then Some an_alert.Handle
    else (if is_owned (sem_of semaphore heap) then Some an_alert.Sem else None)

-- FreeSem semaphore: a semaphore that no task owns is freed (project rule)
unfoldable pub does_free_sem : ℕ → Call → State → Outcome
does_free_sem t call s =
    let semaphore = argument 0 call in
    unless (free_sem_alert semaphore s.memory.heap) t call (λ s. done t call (on_memory (freed semaphore) s)) s

-- ---- obtaining

-- the alert of a call by which task t asks for a semaphore: HANDLE if none begins there, SEM if the task owns it and
-- the count would go past 32767
unfoldable pub obtain_alert : ℕ → ℕ → Heap → Option Alert
obtain_alert t semaphore heap =
    if not (is_semaphore_at semaphore heap) then Some an_alert.Handle
    else (if is_too_deep t (sem_of semaphore heap) then Some an_alert.Sem else None)

-- task t owns the semaphore at once, or waits for it (autodocs ObtainSemaphore and AttemptSemaphore)
unfoldable pub obtained : ℕ → ℕ → Heap → Heap
obtained semaphore t heap = if is_free_for t (sem_of semaphore heap) then entered semaphore t heap else queued semaphore t heap

-- ObtainSemaphore is done for a task that owns the semaphore; any other task waits (autodoc ObtainSemaphore)
abbrev pub obtains : Obtained → ℕ → ℕ → Call → State → Outcome
obtains Owner semaphore t call s = done t call s
obtains Waits semaphore t call s = leaving (asked semaphore t) (waiting t call (on_schedule (waits_at_semaphore t) s))

-- task t has waited in its call, and tries it again
abbrev pub is_tried_again : ℕ → Scripts → Bool
is_tried_again t scripts = is_some (program_of scripts t).kept

-- ObtainSemaphore semaphore: a task that finds it free owns it, with the count 1; the owner's count becomes one more;
-- any other task waits, after those that asked before. When a task has waited and tries the call again, a release has
-- made it the owner: nothing is checked, and the call is done (autodoc exec.library/ObtainSemaphore; the alerts:
-- project rule).
unfoldable pub does_obtain_semaphore : ℕ → Call → State → Outcome
does_obtain_semaphore t call s =
    let semaphore = argument 0 call in
    if is_tried_again t s.scripts then done t call s
    else unless (obtain_alert t semaphore s.memory.heap) t call
    (λ s. obtains (outcome_for t (sem_of semaphore s.memory.heap)) semaphore t call (on_memory (on_heap (obtained semaphore t)) s)) s

-- task t owns the semaphore at once, or nothing changes
unfoldable pub attempted : ℕ → ℕ → Heap → Heap
attempted semaphore t heap = if is_free_for t (sem_of semaphore heap) then entered semaphore t heap else heap

-- AttemptSemaphore semaphore: if ObtainSemaphore would make the task the owner, this does the same and returns 1; if
-- the task would have to wait, nothing changes and 0 is returned (autodoc exec.library/AttemptSemaphore; the alerts:
-- project rule)
unfoldable pub does_attempt_semaphore : ℕ → Call → State → Outcome
does_attempt_semaphore t call s =
    let semaphore = argument 0 call in
    unless (obtain_alert t semaphore s.memory.heap) t call
    (λ s. answered t call (if is_free_for t (sem_of semaphore s.memory.heap) then 1 else 0) (on_memory (on_heap (attempted semaphore t)) s)) s

-- ---- releasing

-- the alert of ReleaseSemaphore for task t: HANDLE if no semaphore begins there, SEM if the task does not own it
unfoldable pub release_alert : ℕ → ℕ → Heap → Option Alert
release_alert t semaphore heap =
    if not (is_semaphore_at semaphore heap) then Some an_alert.Handle
    else (if is_owner t (sem_of semaphore heap) then None else Some an_alert.Sem)

-- the task to which a release gives the semaphore: at the last release the first task that waits for it, if there is
-- one; else none (autodoc ReleaseSemaphore)
unfoldable pub heir : ℕ → Heap → Option ℕ
heir semaphore heap = if is_last (sem_of semaphore heap) then first (waiters_of semaphore heap) else None

-- the first waiting task owns the semaphore, with the count 1, and waits no longer; if none waits, no task owns it
unfoldable pub handed_on : ℕ → Heap → Heap
handed_on semaphore heap =
    with_semaphore semaphore (owned_next (first (waiters_of semaphore heap))) (drop 1 (waiters_of semaphore heap)) heap

-- the owner has to release the semaphore one time less
unfoldable pub released_once : ℕ → Heap → Heap
released_once semaphore heap = with_semaphore semaphore (once_less (sem_of semaphore heap)) (waiters_of semaphore heap) heap

-- the last release gives the semaphore to the task that waits first, or to none; any other release lowers the count
-- (autodoc ReleaseSemaphore)
unfoldable pub released : ℕ → Heap → Heap
released semaphore heap = if is_last (sem_of semaphore heap) then handed_on semaphore heap else released_once semaphore heap

-- ReleaseSemaphore is done: the new owner, if there is one, becomes ready (autodoc ReleaseSemaphore)
abbrev pub passes : Option ℕ → ℕ → ℕ → Call → State → Outcome
passes None semaphore t call s = done t call s
passes (Some owner) semaphore t call s = leaving (passed semaphore owner) (done t call (on_schedule (arrives by_arrival owner) s))

-- ReleaseSemaphore semaphore: the owner has to release the semaphore one time less. After the last release the first of
-- the tasks that wait for it is the owner, with the count 1, and becomes ready; if none waits, no task owns it (autodoc
-- exec.library/ReleaseSemaphore; the alerts: project rule).
unfoldable pub does_release_semaphore : ℕ → Call → State → Outcome
does_release_semaphore t call s =
    let semaphore = argument 0 call in
    unless (release_alert t semaphore s.memory.heap) t call
    (λ s. passes (heir semaphore s.memory.heap) semaphore t call (on_memory (on_heap (released semaphore)) s)) s

-- ---- the words of this group

-- a call of task t on semaphores, by its word
abbrev pub does_semaphores : SemaphoreWord → ℕ → Call → State → Outcome
does_semaphores word.NewSem t call s = does_new_sem t call s
does_semaphores word.FreeSem t call s = does_free_sem t call s
does_semaphores word.ObtainSemaphore t call s = does_obtain_semaphore t call s
does_semaphores word.AttemptSemaphore t call s = does_attempt_semaphore t call s
does_semaphores word.ReleaseSemaphore t call s = does_release_semaphore t call s

-- the rules of this group, where all of them are to unfold
unfoldable pub semaphore_rules : ⊤
unfolding attempted does_attempt_semaphore does_free_sem does_new_sem does_obtain_semaphore does_release_semaphore dropped entered free_sem_alert handed_on heir is_semaphore_at obtain_alert obtained queued release_alert released released_once sem_of waiters_of with_semaphore
semaphore_rules = tt
