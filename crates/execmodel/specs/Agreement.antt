-- What a task's state reports of where it is: which task runs, which are ready, and who waits for a semaphore.
use Rattle.std.specs.Prelude.{◌≡◌, ℕ, Bool, true, false, if◌then◌else◌, nat_eq, List}
use Rattle.execlist.specs.Lists.{is_at, times}
use Rattle.taskq.specs.Tasks.{is_ready}
use Rattle.scheduler.specs.{Schedule.Schedule, Schedule.status_of, Schedule.is_at_semaphore, Sound.is_running}
use Rattle.execmodel.specs.{Blocks.Heap, Semaphores.waiters_of}

-- once if the test says so, and else not at all
abbrev pub once_if : Bool → ℕ
once_if test = if test then 1 else 0

-- A task that waits for a semaphore is once in the queue of one, and in that of no other; any other task is in none.
abbrev pub IsInOneQueue : Bool → ℕ → (ℕ → List ℕ) → Type 0
IsInOneQueue true t waiters = (semaphore : ℕ) × ((other : ℕ) → times t (waiters other) ≡ once_if (nat_eq other semaphore))
IsInOneQueue false t waiters = (other : ℕ) → times t (waiters other) ≡ 0

-- a task waits for no semaphore
abbrev pub WaitsForNone : ℕ → Heap → Type 0
WaitsForNone t heap = IsInOneQueue false t (λ semaphore. waiters_of semaphore heap)

-- The state of a task agrees with where it is: exactly the running task has the state Running; exactly a ready one is
-- among the ready tasks, once; and exactly one that waits for a semaphore is in the queue of one. The queues are given
-- by the addresses of their semaphores.
pub record Agrees (t : ℕ) (s : Schedule) (waiters : ℕ → List ℕ) : Type 0 where
  pub runs : is_at s.running t ≡ is_running (status_of s t)
  pub ready : times t s.queue.ready ≡ once_if (is_ready (status_of s t))
  pub waits : IsInOneQueue (is_at_semaphore (status_of s t)) t waiters
