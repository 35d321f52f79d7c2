-- What becomes of a machine to which a task is added.
use Rattle.std.proofs.Common.{◌≡◌, ◌≢◌, ◌∙◌, ℕ, suc, ℤ, pos, List, [], ◌∷◌, ◌++◌, get_or, slice_index_or, length, if◌then◌else◌, refl, sym, ap, ap₂, subst, Bool, false, Result, Ok, Err, OnOk, OnErr}
use Rattle.execlist.specs.{Lists.times, Order.order, Disciplines.pri_at}
use Rattle.execlist.proofs.OrderLaws.{order_reads_keys}
use Rattle.taskq.specs.declared.TaskState.{TaskState}
use Rattle.taskq.specs.declared.TaskState.TheVariants.{Absent}
use Rattle.taskq.specs.Tasks.{is_ready}
use Rattle.script.specs.File.{TaskData}
use Rattle.scheduler.specs.{Joining.joined_by, Schedule.Schedule, Schedule.status_of, Schedule.task_count}
use Rattle.execmodel.specs.{State.Memory, State.Program, State.Scripts, State.State, State.begun_with, State.new_program, Feeding.with_new}
use Rattle.execmodel.proofs.NewTask.{get_last}
use Rattle.execsim.specs.{Adding.new_task, Adding.seen_with_new, Agreement.Seen, Agreement.Agrees, Agreement.Moves, Agreement.in_order, Headline.Shown, Reached.after_adding, Time.IsKnown}
use Rattle.execsim.proofs.Ordering.{none_in_order, not_there}

-- ---- the ready tasks

-- the priority of a task that is not there changes no order
order_same : (pris : List ℤ) (pri : ℤ) (xs : List ℕ) → times (length pris) xs ≡ 0 → order (pri_at (pris ++ pri ∷ [])) xs ≡ order (pri_at pris) xs
order_same pris pri xs none = order_reads_keys ℕ (pri_at pris) (pri_at (pris ++ pri ∷ [])) xs
    (λ k d within. get_last (get_or xs k d) (pos 0) pri pris (not_there (length pris) xs none k d within))

joined-in_order : (pri : ℤ) (name : List ℕ) (y : Schedule) → times (length y.queue.pris) y.queue.ready ≡ 0
    → joined_by pri name (in_order y) ≡ in_order (joined_by pri name y)
joined-in_order pri name y none =
    ap (λ (ready : List ℕ). record (joined_by pri name y) { queue = record (joined_by pri name y).queue { ready = ready } })
    (sym (order_same y.queue.pris pri y.queue.ready none))

past_end : {A : Type 0} (d : A) (xs : List A) → slice_index_or xs (length xs) d ≡ d
past_end d [] = refl
past_end d (x ∷ xs) = past_end d xs

-- a new task is not among the ready ones
pub none_ready : (y : Schedule) → ((t : ℕ) → times t y.queue.ready ≡ (if is_ready (status_of y t) then 1 else 0)) → length y.queue.pris ≡ task_count y
    → times (length y.queue.pris) y.queue.ready ≡ 0
none_ready y ready count =
    ready (length y.queue.pris)
    ∙ ap {B = ℕ} (λ k. if is_ready (status_of y k) then 1 else 0) count
    ∙ ap {B = ℕ} (λ (status : TaskState). if is_ready status then 1 else 0) (past_end Absent y.queue.states)

-- ---- what the machine shows

-- a machine whose schedule, programs and memory have one more task each
pub parts_joined : (name : List ℕ) (pri : ℤ) (m : Seen) (schedule : Schedule) (programs old : List Program) (program : Program) (memory : Memory)
    → schedule ≡ joined_by pri name m.schedule → programs ≡ old ++ program ∷ [] → old ≡ m.scripts.programs → program ≡ begun_with [] false
    → memory ≡ record m.memory { tasks = suc m.memory.tasks }
    → record m { schedule = schedule; scripts = record m.scripts { programs = programs }; memory = memory } ≡ seen_with_new (new_task name pri) m
parts_joined name pri m schedule programs old program memory joins put same begins shows =
    let grown = put ∙ ap₂ (λ ps p. ps ++ p ∷ []) same begins in
    λ i. record m { schedule = joins i; scripts = record m.scripts { programs = grown i }; memory = shows i }

module _ (task : TaskData) (m : Seen) (none : times (length m.schedule.queue.pris) m.schedule.queue.ready ≡ 0) where
  agrees_new : (s : State) → Agrees m s → Agrees (seen_with_new task m) (with_new task s)
  agrees_new s a =
      let there = subst (λ (y : Schedule). times (length y.queue.pris) y.queue.ready ≡ 0) a.schedule none in
      record {
        schedule = ap (joined_by task.pri task.name) a.schedule
            ∙ joined-in_order task.pri task.name s.schedule
            (none_in_order (pri_at s.schedule.queue.pris) (length s.schedule.queue.pris) s.schedule.queue.ready there);
        scripts = ap (λ (scripts : Scripts). record scripts { programs = scripts.programs ++ new_program task ∷ [] }) a.scripts;
        memory = ap (λ (memory : Memory). record memory { tasks = suc memory.tasks }) a.memory;
        bodies = a.bodies;
        pending = a.pending;
        stopped = a.stopped;
      }

  pub moves_new : Moves (with_new task) m (seen_with_new task m)
  moves_new = record { agrees = agrees_new }

  -- a machine shows a state that it comes to, if it showed one before
  pub known_new : IsKnown m → IsKnown (seen_with_new task m)
  known_new known = record {
    state = with_new task known.state;
    agrees = agrees_new known.state known.agrees;
    reached = after_adding task known.state known.reached;
  }

  -- ---- what an answer says, whether memory was refused or not

  module _ {X E : Type 0} (n : Seen) where
    pub known_after_adding : (result : Result X E) → OnOk result (n ≡ seen_with_new task m) → OnErr result (n ≡ m) → IsKnown m → IsKnown n
    known_after_adding (Ok x) is same known = subst (λ (s : Seen). IsKnown s) (sym is) (known_new known)
    known_after_adding (Err e) is same known = subst (λ (s : Seen). IsKnown s) (sym same) known

    pub moves_after_adding : (result : Result X E) → OnOk result (n ≡ seen_with_new task m) → OnOk result (Moves (with_new task) m n)
    moves_after_adding (Ok x) is = subst (λ (s : Seen). Moves (with_new task) m s) (sym is) moves_new
    moves_after_adding (Err e) is = tt
