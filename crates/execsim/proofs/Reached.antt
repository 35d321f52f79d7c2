-- What holds of each state that a machine comes to, and so of what the machine shows.
use Rattle.std.proofs.Common.{◌≡◌, ℕ, ◌<◌, ◌≤◌, List, [], ◌∷◌, length, Option, None, Some, Bool, true, false, ap, sym, ◌∙◌, subst, arith, Result, Ok, Err, IfOk, IfSome, if◌then◌else◌}
use Rattle.exectrace.specs.{declared.sinks.SinkState.TheVariants.Good}
use Rattle.script.specs.declared.event.Event.TheVariants.{Run, Tick}
use Rattle.script.specs.declared.event.Event.{Event}
use Rattle.execlist.specs.{Lists.is_at, Lists.times, Order.first, Disciplines.pri_at}
use Rattle.taskq.specs.{declared.TaskState.TheVariants.Running, declared.TaskState.TheVariants.Waiting, declared.Why.TheVariants.Sem}
use Rattle.scheduler.specs.Schedule.{Schedule, is_at_semaphore, status_of}
use Rattle.execmodel.specs.{State.Memory, State.Scripts, State.State, State.andthen, Step.steps, Step.ticks, Step.starts, Step.event, Step.events, Agreement.WaitsForNone, Semaphores.heir, Semaphores.sem_of, Semaphores.waiters_of}
use Rattle.sigsem.specs.Semaphores.{is_last}
use Rattle.execmodel.proofs.{FedRuns.fed_sound, FedRuns.new_sound, Stretches.of_event, Stretches.of_starts, WaitingLaw.IsSoundState, WaitingLaw.Waits, WaitingLaw.waits, WaitingLaw.clocked, WaitingLaw.booted_sound, Agreement.untouched, Agreement.at_semaphore_is, Agreement.first_stands, Agreement.running_state, Agreement.waits_at as stands_where, Agreement.waits_there}
use Rattle.execheap.specs.declared.refusal.Refusal.{Refusal}
use Rattle.execsim.specs.{Agreement.Seen, Agreement.Agrees, Agreement.FollowsWhileGood, Reached.IsReached, Reached.at_boot, Reached.after_start, Reached.after_event, Reached.after_feeding, Reached.after_adding, Reached.QueuesAgree, Reached.IsInOrder, Time.IsKnown}
use Rattle.execsim.proofs.{Following.good_before, Ordering.times_in_order}
use Rattle.exectrace.specs.Hearing.{Hearing}

-- ---- more states that a machine comes to

pub steps_reached : (n : ℕ) (s : State) → IsReached s → IsReached (steps n s).state
unfolding event
steps_reached n s reached = after_event (Run n) s reached

pub ticks_reached : (n : ℕ) (s : State) → IsReached s → IsReached (ticks n s).state
unfolding event
ticks_reached n s reached = after_event (Tick n) s reached

pub events_reached : (list : List Event) (s : State) → IsReached s → IsReached (events list s).state
unfolding events andthen
events_reached [] s reached = reached
events_reached (e ∷ rest) s reached = events_reached rest (event e s).state (after_event e s reached)

pub run_reached : (list : List Event) (s : State) → IsReached s → IsReached (andthen starts (events list) s).state
unfolding andthen
run_reached list s reached = events_reached list (starts s).state (after_start s reached)

-- ---- what holds of each

sound_there : (s : State) → IsReached s → IsSoundState s
sound_there s (at_boot machine is) = booted_sound machine is
sound_there s (after_start before reached) = (of_starts Waits waits before (sound_there before reached)).0
sound_there s (after_event e before reached) = (of_event Waits waits clocked e before (sound_there before reached)).0
sound_there s (after_feeding t command before reached) = fed_sound t command before (sound_there before reached)
sound_there s (after_adding task before reached) = new_sound task before (sound_there before reached)

-- the queues of what the machine shows agree, since those of the state do
shown_agree : (m : Seen) (s : State) → Agrees m s → IsSoundState s → QueuesAgree m
shown_agree m s shows sound t =
    untouched t s.schedule m.schedule (λ a. waiters_of a s.memory.heap) (λ a. waiters_of a m.memory.heap)
    (ap (λ (y : Schedule). status_of y t) shows.schedule) (ap (λ (y : Schedule). is_at y.running t) shows.schedule)
    (ap (λ (y : Schedule). times t y.queue.ready) shows.schedule ∙ times_in_order (pri_at s.schedule.queue.pris) t s.schedule.queue.ready)
    (λ a. ap (λ (y : Memory). times t (waiters_of a y.heap)) shows.memory) (sound.agrees t)

-- as many tasks may wait as there are programs
shown_room : (m : Seen) (s : State) → Agrees m s → IsSoundState s → length m.scripts.programs ≤ m.memory.tasks
shown_room m s shows sound =
    let programs = ap (λ (x : Scripts). length x.programs) shows.scripts in
    let tasks = ap (λ (y : Memory). y.tasks) shows.memory in
    omega (arith, programs, tasks, sound.counted, sound.roomy)

pub in_order_there : (m : Seen) → IsKnown m → IsInOrder m
in_order_there m known =
    let sound = sound_there known.state known.reached in
    record { queues = shown_agree m known.state known.agrees sound; room = shown_room m known.state known.agrees sound }

-- after some steps of many that holds
pub agree_after_steps : {H : Hearing} {m n : Seen} {a b : H.Told} (i : ℕ) → (H.good a ≡ true → IsKnown m) → FollowsWhileGood H (steps i) m n a b → H.good b ≡ true → IsInOrder n
agree_after_steps {n = n} i shown follows good =
    let known = shown (good_before follows good) in
    in_order_there n (record {
      state = (steps i known.state).state;
      agrees = follows.agrees known.state known.agrees good;
      reached = steps_reached i known.state known.reached;
    })

-- ---- what the queues say

-- the running task waits for no semaphore
pub runs_for_none : (m : Seen) (t : ℕ) → m.schedule.running ≡ Some t → QueuesAgree m → WaitsForNone t m.memory.heap
runs_for_none m t runs agree =
    let queues = λ (a : ℕ). waiters_of a m.memory.heap in
    stands_where t m.schedule queues Running (running_state t m.schedule queues runs (agree t)) (agree t)

first_there : (t : ℕ) (q : List ℕ) → first q ≡ Some t → 0 < times t q
first_there t [] e = let bad : None ≡ Some t = e in cc
first_there t (x ∷ q) e = let same : x ≡ t = cc in first_stands t x q same

heir_there : (last : Bool) (t : ℕ) (q : List ℕ) → (if last then first q else None) ≡ Some t → 0 < times t q
heir_there true t q e = first_there t q e
heir_there false t q e = let bad : None ≡ Some t = e in cc

-- the task that a release makes the owner waits for a semaphore
pub heir_waits : (m : Seen) (semaphore owner : ℕ) → heir semaphore m.memory.heap ≡ Some owner → QueuesAgree m → status_of m.schedule owner ≡ Waiting Sem
unfolding heir
heir_waits m semaphore owner is agree =
    at_semaphore_is (status_of m.schedule owner)
    (waits_there (is_at_semaphore (status_of m.schedule owner)) owner (λ a. waiters_of a m.memory.heap) semaphore (agree owner).waits
    (heir_there (is_last (sem_of semaphore m.memory.heap)) owner (waiters_of semaphore m.memory.heap) is))

-- so does the one of an answer, if it is one
pub heirs_wait : {m n : Seen} → m ≡ n → (semaphore : ℕ) (tried : Result (Option ℕ) Refusal) → IfOk tried (λ owner. owner ≡ heir semaphore m.memory.heap)
    → QueuesAgree n → IfOk tried (λ heir. IfSome heir (λ owner. status_of m.schedule owner ≡ Waiting Sem))
heirs_wait same semaphore (Ok None) is agree = tt
heirs_wait {m} {n} same semaphore (Ok (Some owner)) is agree = heir_waits m semaphore owner (sym is) (subst (λ (x : Seen). QueuesAgree x) (sym same) agree)
heirs_wait same semaphore (Err why) is agree = tt
