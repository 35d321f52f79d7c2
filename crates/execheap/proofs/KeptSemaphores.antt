-- What calls on semaphores leave alone.
use Rattle.std.proofs.Common.{◌≡◌, ℕ, Bool, true, false, length, refl, ap, sym, ◌∙◌, subst, Some, None, Option, Ok, Result, is_ok, if◌then◌else◌, IsTrue, length-set}
use Rattle.execlist.specs.{Order.first, Answers.fault_or, Answers.kept_or}
use Rattle.sigsem.specs.Semaphores.{Semaphores, attempted, dropped, dropped_from, entered, free_sem, handed_on, is_last, is_free_for, is_sem, let_go, obtained, once_less, once_more, owned_by, queued, sem_at, waiters_of, waits_at, with_sem}
use Rattle.sigsem.specs.{declared.fault.SemFault.SemFault, declared.semaphore.Sem.Sem}
use Rattle.execheap.specs.{declared.tag.Kind.Kind, Table.pool_of, Numbered.Numbered, Numbered.Fits, Numbered.IsKept, Numbered.own_shape, Numbered.shape}
use Rattle.execheap.specs.declared.tag.Kind.TheVariants as variant
use Rattle.execheap.proofs.{InTime.in_time_beside, Stepping.shape_written}

-- ---- what stays

-- the same semaphores live and are free, and there is room for as many tasks
pub record IsAlike (m q : Semaphores) : Type 0 where
  pub same : shape q.sems ≡ shape m.sems
  pub each_task : length q.places ≡ length m.places

pub kept_same : (m : Semaphores) → IsAlike m m
kept_same m = record { same = refl; each_task = refl }

-- a semaphore that lives becomes another
kept_written : (n : ℕ) (sem : Sem) (m : Semaphores) → IsTrue (is_sem n m) → IsAlike m (with_sem n sem m)
kept_written n sem m lives = record {
  same = shape_written m.sems n sem lives;
  each_task = refl;
}

pub kept_queued : (n t : ℕ) (m : Semaphores) → IsAlike m (queued n t m)
kept_queued n t m = record { same = refl; each_task = length-set m.places t (Some n) }

pub kept_attempted : (n t : ℕ) (m : Semaphores) → IsTrue (is_sem n m) → IsAlike m (attempted n t m)
kept_attempted n t m lives = by_case (is_free_for t (sem_at n m)) where
  by_case : (b : Bool) → IsAlike m (if b then entered n t m else m)
  by_case true = kept_written n (once_more t (sem_at n m)) m lives
  by_case false = kept_same m

pub kept_obtained : (n t : ℕ) (m : Semaphores) → IsTrue (is_sem n m) → IsAlike m (obtained n t m)
kept_obtained n t m lives = by_case (is_free_for t (sem_at n m)) where
  by_case : (b : Bool) → IsAlike m (if b then entered n t m else queued n t m)
  by_case true = kept_written n (once_more t (sem_at n m)) m lives
  by_case false = kept_queued n t m

kept_handed : (n : ℕ) (o : Option ℕ) (m : Semaphores) → IsTrue (is_sem n m) → IsAlike m (handed_on n o m)
kept_handed n None m lives = kept_written n free_sem m lives
kept_handed n (Some t) m lives = record {
  same = shape_written m.sems n (owned_by t) lives;
  each_task = length-set m.places t None;
}

pub kept_let_go : (n : ℕ) (m : Semaphores) → IsTrue (is_sem n m) → IsAlike m (let_go n m)
kept_let_go n m lives = by_case (is_last (sem_at n m)) where
  less : Sem
  less = once_less (sem_at n m)

  by_case : (b : Bool) → IsAlike m (if b then handed_on n (first (waiters_of n m)) m else with_sem n less m)
  by_case true = kept_handed n (first (waiters_of n m)) m lives
  by_case false = kept_written n less m lives

kept_dropped_from : (o : Option ℕ) (t : ℕ) (m : Semaphores) → IsAlike m (dropped_from o t m)
kept_dropped_from None t m = kept_same m
kept_dropped_from (Some n) t m = record { same = refl; each_task = length-set m.places t None }

pub kept_dropped : (t : ℕ) (m : Semaphores) → IsAlike m (dropped t m)
kept_dropped t m = kept_dropped_from (waits_at t m) t m

-- a call that may be refused
pub kept_unless : (fault : Option SemFault) (m q r : Semaphores) → q ≡ kept_or fault m r → IsAlike m r → IsAlike m q
kept_unless None m q r is kept = subst (IsAlike m) (sym is) kept
kept_unless (Some fault) m q r is kept = subst (IsAlike m) (sym is) (kept_same m)

-- ---- what an answer reports

-- a call that was not refused
pub not_refused : {A : Type 0} (fault : Option SemFault) (value answer : A) (result : Result A SemFault) (old new q : Semaphores)
    → result ≡ fault_or fault value → result ≡ Ok answer → q ≡ kept_or fault old new → q ≡ new
not_refused None value answer result old new q is ok next = next
not_refused (Some fault) value answer result old new q is ok next = let bad : false ≡ true = ap is_ok (sym is ∙ ok) in cc

-- ---- the objects

-- all objects are kept if semaphores are alike
pub kept_sems : {s : Numbered} → IsKept s → (q : Semaphores) → IsAlike s.sems q → IsKept (record s { sems = q })
kept_sems {s} kept q alike = record {
  live_nodes = kept.live_nodes;
  live_lists = kept.live_lists;
  each_list = kept.each_list;
  each_node = kept.each_node;
  in_step = in_step;
  apt = record { own_signals = kept.apt.own_signals; each_task = alike.each_task ∙ kept.apt.each_task };
  in_time = in_time_beside kept.in_time refl refl refl refl;
} where
  in_step : (k : Kind) → Fits (own_shape k (record s { sems = q })) (pool_of k s.table)
  in_step variant.Port = kept.in_step variant.Port
  in_step variant.Message = kept.in_step variant.Message
  in_step variant.Semaphore = alike.same ∙ kept.in_step variant.Semaphore
  in_step variant.Request = kept.in_step variant.Request
  in_step _ = tt
