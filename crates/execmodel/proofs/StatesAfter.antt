-- What a call makes of the tasks' states, of the ready sequence and of the received signals: one of a few things,
-- whatever the word. That the queues agree with the schedule, and the laws of signals, go by these.
use Rattle.std.proofs.Common.{[], ◌≡◌, ◌≢◌, ℕ, zero, suc, ◌<◌, ℤ, Bool, true, false, List, ◌∷◌, Option, None, Some, length, refl, sym, ap, ◌∙◌, arith, ◌-◌, negsuc, if◌then◌else◌, nat_eq, nat_lt, nat_le, bit_and, slice_set, slice_index_or, ◌&&◌, length-set, get_or-set_other}
use Rattle.std.proofs.lemmas.Bool.Decides.{nat_tests}
use Rattle.memlist.proofs.Answered.{nat_eq-other, cases_eq}
use Rattle.execlist.specs.Disciplines.{by_arrival}
use Rattle.signals.specs.Signals.{SignalSets, initial_sets, without_bits, taken_signals, after_free}
use Rattle.forbid.specs.Nesting.{Nesting}
use Rattle.taskq.specs.Tasks.{is_live, is_ready}
use Rattle.scheduler.specs.Schedule.{Schedule, status_of, signals_of, allocates_signal, frees_signal, sets_signals, takes_signals, waits_for, waits_at_semaphore, departs, is_absent, leaves as leaves_for_good, task_removed, with_priority, with_signals}
use Rattle.scheduler.specs.Dispatch.{arrives}
use Rattle.sigsem.specs.declared.semaphore.Obtained.TheVariants.{Owner, Waits}
use Rattle.sigsem.specs.declared.semaphore.Obtained.{Obtained}
use Rattle.iorequest.specs.declared.request.ReqState.TheVariants.{Idle, UnderWay, Quick, Replied}
use Rattle.iorequest.specs.declared.request.ReqState.{ReqState}
use Rattle.msgport.specs.declared.action.Action.{Action}
use Rattle.execmodel.specs.{State.Call, State.Scripts, State.Memory, State.asked, State.passed, State.State, State.Outcome, State.on_schedule, State.on_memory, State.on_heap, Calls.done, Calls.answered, Calls.waiting, Calls.silent, Calls.alerted, Calls.keeps, Plain.jumps, Signals.is_task, Signals.waited, Nesting.gives_nesting, Ports.port_created, Ports.looked, Ports.loses, Ports.performed, Semaphores.dropped, Semaphores.obtains, Semaphores.passes, Semaphores.leaving_queue, Requests.answering_port, Requests.acting_at, Requests.with_reply, Requests.ended, Requests.looks_for, Requests.aborts, Laws.is_own_taking}
use Rattle.execmodel.proofs.Commands.{IsCalm, IsAlike, same, Reaches, rests, IsAltered, performed_reaches, performed_scripts, goes_count, answered_count}
use Rattle.execmodel.proofs.{Heaps.true_is_not_false, Bits.nothing_left}

-- the same states, ready tasks, running task and received signals, but for what task t has received
pub record IsOwn (t : ℕ) (s r : Schedule) : Type 0 where
  pub states : r.queue.states ≡ s.queue.states
  pub ready : r.queue.ready ≡ s.queue.ready
  pub running : r.running ≡ s.running
  pub others : (k : ℕ) → k ≢ t → (signals_of r k).received ≡ (signals_of s k).received

-- what a call of task t may make of the schedule, and the marks that it leaves at semaphores
pub data Shifts (t : ℕ) (call : Call) (s : State) (o : Outcome) : Type 0 where
  reaches : Reaches o.marks s.schedule o.state.schedule → Shifts t call s o
  rearrives : (k : ℕ) → IsCalm o.marks → is_ready (status_of s.schedule k) ≡ true → IsAlike (arrives by_arrival k (departs k s.schedule)) o.state.schedule
      → Shifts t call s o
  adds : (k : ℕ) → IsCalm o.marks → k < length s.scripts.programs → is_absent (status_of s.schedule k) ≡ true
      → o.state.schedule ≡ arrives by_arrival k s.schedule → Shifts t call s o
  takes : IsCalm o.marks → is_own_taking call.word ≡ true → IsOwn t s.schedule o.state.schedule → Shifts t call s o
  sleeps : (mask : ℕ) (q : Schedule) → IsCalm o.marks → is_own_taking call.word ≡ true → IsOwn t s.schedule q
      → bit_and (signals_of q t).received mask ≡ 0 → o.state.schedule ≡ waits_for t mask q → Shifts t call s o
  asks : (semaphore : ℕ) → o.marks ≡ asked semaphore t ∷ [] → o.state.schedule ≡ waits_at_semaphore t s.schedule → Shifts t call s o
  wakes : (semaphore owner : ℕ) → o.marks ≡ passed semaphore owner ∷ [] → o.state.schedule ≡ arrives by_arrival owner s.schedule → Shifts t call s o
  leaves : IsCalm o.marks → o.state.schedule ≡ leaves_for_good t s.schedule → Shifts t call s o
  removes : (other : ℕ) → other ≢ t → o.state.memory.heap ≡ dropped other s.memory.heap → o.state.schedule ≡ task_removed other s.schedule
      → Shifts t call s o

-- an outcome makes such a thing of the schedule, and there are as many programs as before
abbrev pub Shifted : ℕ → Call → State → Outcome → Type 0
Shifted t call s o = (length o.state.scripts.programs ≡ length s.scripts.programs) × Shifts t call s o

-- nothing changes
pub stays : {t : ℕ} {call : Call} {s : State} {o : Outcome} → IsCalm o.marks → IsAlike s.schedule o.state.schedule → Shifts t call s o
stays calm alike = reaches (rests calm alike)

-- what any caller may make of the schedule
pub any_shifts : (t : ℕ) (call : Call) (s : State) (o : Outcome) → IsAltered s o → Shifted t call s o
any_shifts t call s o alters = (alters.programs, reaches alters.tasks)

-- ---- schedules that are alike

pub own : (t : ℕ) (s : Schedule) → IsOwn t s s
own t s = record { states = refl; ready = refl; running = refl; others = λ k apart. refl }

pub own_signals : (t : ℕ) (sets : SignalSets) (s : Schedule) → IsOwn t s (with_signals t sets s)
own_signals t sets s = record {
  states = refl;
  ready = refl;
  running = refl;
  others = λ k apart. ap (λ (x : SignalSets). x.received) (get_or-set_other s.signals t k sets initial_sets apart);
}

own_more : (t : ℕ) (s r q : Schedule) → IsOwn t s r → IsOwn t r q → IsOwn t s q
own_more t s r q one two = record {
  states = two.states ∙ one.states;
  ready = two.ready ∙ one.ready;
  running = two.running ∙ one.running;
  others = λ k apart. two.others k apart ∙ one.others k apart;
}

-- if signal n of a task is not allocated any more, what it has received stays
same_received : (t k n : ℕ) (s : Schedule)
    → (signals_of (with_signals t (after_free n (signals_of s t)) s) k).received ≡ (signals_of s k).received
same_received t k n s = received_at s.signals t k (after_free n (signals_of s t)) refl
  where
    received_at : (all : List SignalSets) (t k : ℕ) (sets : SignalSets) → sets.received ≡ (slice_index_or all t initial_sets).received
        → (slice_index_or (slice_set all t sets) k initial_sets).received ≡ (slice_index_or all k initial_sets).received
    received_at [] t k sets e = refl
    received_at (x ∷ all) zero zero sets e = e
    received_at (x ∷ all) zero (suc k) sets e = refl
    received_at (x ∷ all) (suc t) zero sets e = refl
    received_at (x ∷ all) (suc t) (suc k) sets e = received_at all t k sets e

pub freed_alike : (t n : ℕ) (s : Schedule) → IsAlike s (frees_signal t n s)
unfolding frees_signal
freed_alike t n s = either (is_live (status_of s t))
  where
    either : (test : Bool) → IsAlike s (if test then with_signals t (after_free n (signals_of s t)) s else s)
    either true = record { states = refl; ready = refl; running = refl; received = λ k. same_received t k n s }
    either false = same s

-- ---- how a call ends

kept_count : (t : ℕ) (call : Call) (scripts : Scripts) → length (keeps t call scripts).programs ≡ length scripts.programs
kept_count t call scripts = length-set scripts.programs t _

-- calls after which the schedule is as it was
pub done_stays : (t : ℕ) (call : Call) (s : State) (memory : Memory) → Shifted t call s (done t call (record s { memory = memory }))
unfolding done
done_stays t call s memory = (goes_count t call.next s.scripts, stays (λ p. refl) (same s.schedule))

pub answered_stays : (t : ℕ) (call : Call) (value : ℕ) (s : State) (memory : Memory)
    → Shifted t call s (answered t call value (record s { memory = memory }))
unfolding answered
answered_stays t call value s memory = (answered_count t call.next call.target value s.scripts, stays (λ p. refl) (same s.schedule))

pub silent_stays : (t : ℕ) (call : Call) (value : ℕ) (s : State) → Shifted t call s (silent t call value s)
unfolding silent
silent_stays t call value s = (answered_count t call.next call.target value s.scripts, stays (λ p. refl) (same s.schedule))

pub jumps_stays : (t : ℕ) (call : Call) (place : ℕ) (s : State) → Shifted t call s (jumps t place s)
unfolding jumps
jumps_stays t call place s = (goes_count t place s.scripts, stays (λ p. refl) (same s.schedule))

-- ---- plain words, signals, nesting

nothing_there : (n : ℕ) → nat_eq n 0 ≡ true → n ≡ 0
nothing_there n e = cases_eq n 0 (λ is. is) (λ apart. true_is_not_false (sym e ∙ nat_eq-other n 0 apart))

pub waited_shifts : (t : ℕ) (call : Call) (mask : ℕ) (test : Bool) (s : State) → is_own_taking call.word ≡ true
    → nat_eq (taken_signals mask (signals_of s.schedule t)) 0 ≡ test
    → Shifted t call s (waited t call (if test then None else Some (taken_signals mask (signals_of s.schedule t)))
    (on_schedule (λ r. if test then waits_for t mask r else takes_signals t mask r) s))
unfolding waiting answered takes_signals
waited_shifts t call mask true s taking e =
    (kept_count t call s.scripts, sleeps mask s.schedule (λ p. refl) taking (own t s.schedule) (nothing_there _ e) refl)
waited_shifts t call mask false s taking e =
    (answered_count t call.next call.target _ s.scripts, takes (λ p. refl) taking (own_signals t _ s.schedule))

pub counted_shifts : (t : ℕ) (call : Call) (nesting : Option Nesting) (s : State) → Shifted t call s (gives_nesting t call nesting s)
unfolding done alerted
counted_shifts t call None s = (refl, stays (λ p. refl) (same s.schedule))
counted_shifts t call (Some nesting) s =
    (goes_count t call.next s.scripts, stays (λ p. refl) (record { states = refl; ready = refl; running = refl; received = λ k. refl }))

-- ---- tasks

pub reprioritized_shifts : (t : ℕ) (call : Call) (value k : ℕ) (pri : ℤ) (test : Bool) (s : State) → is_ready (status_of s.schedule k) ≡ test
    → Shifted t call s (answered t call value
    (on_schedule (λ r. if test then arrives by_arrival k (departs k (with_priority k pri r)) else with_priority k pri r) s))
unfolding answered arrives
reprioritized_shifts t call value k pri true s e = (
  answered_count t call.next call.target value s.scripts,
  rearrives k (λ p. refl) e (record { states = refl; ready = refl; running = refl; received = λ j. refl }),
)
reprioritized_shifts t call value k pri false s e = (
  answered_count t call.next call.target value s.scripts,
  stays (λ p. refl) (record { states = refl; ready = refl; running = refl; received = λ j. refl }),
)

-- a task of that number is one of that many
pub number_in_range : (number count : ℕ) → (nat_lt 0 number && nat_le number count) ≡ true → number - 1 < count
number_in_range number count e = grind (arith, nat_tests)

pub added_shifts : (t : ℕ) (call : Call) (value number : ℕ) (test : Bool) (s : State) → is_task number s.scripts ≡ true
    → is_absent (status_of s.schedule (number - 1)) ≡ test
    → Shifted t call s (answered t call value (on_schedule (λ r. if test then arrives by_arrival (number - 1) r else r) s))
unfolding answered
added_shifts t call value number true s is e = (
  answered_count t call.next call.target value s.scripts,
  adds (number - 1) (λ p. refl) (number_in_range number (length s.scripts.programs) is) e refl,
)
added_shifts t call value number false s is e =
    (answered_count t call.next call.target value s.scripts, stays (λ p. refl) (same s.schedule))

pub left_shifts : (semaphore : Option ℕ) (other t : ℕ) (call : Call) (s : State) → other ≢ t
    → Shifted t call s (leaving_queue semaphore other (done t call (on_schedule (task_removed other) (on_memory (on_heap (dropped other)) s))))
unfolding done
left_shifts None other t call s apart = (goes_count t call.next s.scripts, removes other apart refl refl)
left_shifts (Some semaphore) other t call s apart = (goes_count t call.next s.scripts, removes other apart refl refl)

-- ---- ports

pub created_shifts : (t : ℕ) (call : Call) (bit place : Option ℕ) (s : State) (memory : Memory) → is_own_taking call.word ≡ true
    → Shifted t call s (port_created t call bit place (record s { memory = memory }))
unfolding answered allocates_signal
created_shifts t call None place s memory taking = (answered_count t call.next call.target 0 s.scripts, stays (λ p. refl) (same s.schedule))
created_shifts t call (Some bit) None s memory taking = (answered_count t call.next call.target 0 s.scripts, stays (λ p. refl) (same s.schedule))
created_shifts t call (Some bit) (Some address) s memory taking =
    (answered_count t call.next call.target address s.scripts, takes (λ p. refl) taking (own_signals t _ s.schedule))

-- of the signals that a task takes it has received none any more
none_received : (t mask : ℕ) (all : List SignalSets) (sets : SignalSets) → sets.received ≡ without_bits (slice_index_or all t initial_sets).received mask
    → bit_and (slice_index_or (slice_set all t sets) t initial_sets).received mask ≡ 0
none_received t mask [] sets e = nothing_in_none mask
  where
    nothing_in_none : (mask : ℕ) → bit_and 0 mask ≡ 0
    nothing_in_none mask = refl
none_received zero mask (x ∷ all) sets e = ap (λ bits. bit_and bits mask) e ∙ nothing_left x.received mask
none_received (suc t) mask (x ∷ all) sets e = none_received t mask all sets e

pub looked_shifts : (message : Option ℕ) (mask t : ℕ) (call : Call) (s : State) → is_own_taking call.word ≡ true
    → Shifted t call s (looked message mask t call (on_schedule (loses t call.awaited) s))
unfolding waiting answered sets_signals takes_signals
looked_shifts None mask t call s taking = (
  kept_count t (record call { awaited = mask }) s.scripts,
  sleeps mask (takes_signals t mask (loses t call.awaited s.schedule)) (λ p. refl) taking
      (own_more t s.schedule (loses t call.awaited s.schedule) _ (own_signals t _ s.schedule) (own_signals t _ (loses t call.awaited s.schedule)))
      (none_received t mask (loses t call.awaited s.schedule).signals _ refl) refl,
)
looked_shifts (Some message) mask t call s taking =
    (answered_count t call.next call.target message s.scripts, takes (λ p. refl) taking (own_signals t _ s.schedule))

-- ---- semaphores

pub obtains_shift : (how : Obtained) (semaphore t : ℕ) (call : Call) (s : State) (memory : Memory)
    → Shifted t call s (obtains how semaphore t call (record s { memory = memory }))
unfolding done waiting
obtains_shift Owner semaphore t call s memory = (goes_count t call.next s.scripts, stays (λ p. refl) (same s.schedule))
obtains_shift Waits semaphore t call s memory = (kept_count t call s.scripts, asks semaphore refl refl)

pub passes_shift : (owner : Option ℕ) (semaphore t : ℕ) (call : Call) (s : State) (memory : Memory)
    → Shifted t call s (passes owner semaphore t call (record s { memory = memory }))
unfolding done
passes_shift None semaphore t call s memory = (goes_count t call.next s.scripts, stays (λ p. refl) (same s.schedule))
passes_shift (Some owner) semaphore t call s memory = (goes_count t call.next s.scripts, wakes semaphore owner refl refl)

-- ---- requests

-- a call after which a port acts where a reply arrived, if there is one
acted_count : (act : Action) (s : State) → length (performed act s).scripts.programs ≡ length s.scripts.programs
acted_count act s = ap (λ (scripts : Scripts). length scripts.programs) (performed_scripts act s)

pub sends_shift : (port : Option ℕ) (request t : ℕ) (call : Call) (act : Action) (s : State) (memory : Memory)
    → Shifted t call s (with_reply port request (done t call (performed act (record s { memory = memory }))))
unfolding done
sends_shift None request t call act s memory =
    let next = record s { memory = memory } in
    (goes_count t call.next (performed act next).scripts ∙ acted_count act next, reaches (performed_reaches act [] next (λ p. refl)))
sends_shift (Some port) request t call act s memory =
    let next = record s { memory = memory } in
    (goes_count t call.next (performed act next).scripts ∙ acted_count act next, reaches (performed_reaches act _ next (λ p. refl)))

ends_shift : (port : Option ℕ) (request t : ℕ) (call : Call) (act : Action) (s : State) (memory : Memory)
    → Shifted t call s (with_reply port request (answered t call 0 (performed act (record s { memory = memory }))))
unfolding answered
ends_shift None request t call act s memory =
    let next = record s { memory = memory } in (
      answered_count t call.next call.target 0 (performed act next).scripts ∙ acted_count act next,
      reaches (performed_reaches act [] next (λ p. refl)),
    )
ends_shift (Some port) request t call act s memory =
    let next = record s { memory = memory } in (
      answered_count t call.next call.target 0 (performed act next).scripts ∙ acted_count act next,
      reaches (performed_reaches act _ next (λ p. refl)),
    )

pub aborts_shift : (test : Bool) (request t : ℕ) (call : Call) (s : State) → Shifted t call s (aborts test request t call s)
aborts_shift true request t call s =
    ends_shift (answering_port request s.memory.heap) request t call (acting_at (answering_port request s.memory.heap) s.memory.heap) s
    (ended (negsuc 1) request s.memory)
aborts_shift false request t call s = answered_stays t call _ s s.memory

-- a task looks for a request, after it has changed what it received itself, or the memory
pub looks_shift : (how : ReqState) (request t : ℕ) (call : Call) (s r : State) → is_own_taking call.word ≡ true
    → length r.scripts.programs ≡ length s.scripts.programs → IsOwn t s.schedule r.schedule → Shifted t call s (looks_for how request t call r)
unfolding waiting answered takes_signals
looks_shift Idle request t call s r taking count mine =
    (answered_count t call.next call.target _ r.scripts ∙ count, takes (λ p. refl) taking mine)
looks_shift UnderWay request t call s r taking count mine = (
  kept_count t _ r.scripts ∙ count,
  sleeps _ (takes_signals t _ r.schedule) (λ p. refl) taking (own_more t s.schedule r.schedule _ mine (own_signals t _ r.schedule))
      (none_received t _ r.schedule.signals _ refl) refl,
)
looks_shift Quick request t call s r taking count mine =
    (answered_count t call.next call.target _ r.scripts ∙ count, takes (λ p. refl) taking mine)
looks_shift Replied request t call s r taking count mine =
    (answered_count t call.next call.target _ r.scripts ∙ count, takes (λ p. refl) taking mine)
