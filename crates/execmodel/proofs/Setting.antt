-- A call on requests leaves system time as it is, or sets it.
use Rattle.std.proofs.Common.{◌⊎◌, inl, inr, ◌≡◌, ℕ, Bool, true, false, Option, refl, ap, ◌∙◌, ℤ, negsuc, if◌then◌else◌}
use Rattle.msgport.specs.declared.action.Action.{Action}
use Rattle.iorequest.specs.declared.request.Begun.TheVariants.{Finish, Queue, Until, NewTime}
use Rattle.iorequest.specs.{declared.request.ReqState.ReqState, declared.request.ReqState.TheVariants.Idle, Request.is_to_wait, Request.is_until, Request.due_of, Request.error_of, Request.sets_time, Request.time_of}
use Rattle.script.specs.declared.word.requests.RequestWord.{RequestWord}
use Rattle.script.specs.declared.word.requests.RequestWord.TheVariants as requests
use Rattle.execmodel.specs.Requests.{request_of, answering_port, acting_at, with_reply, ended, timer_begun, begun_at, looks_for, aborts}
use Rattle.execmodel.specs.{State.Call, State.Timer, State.Memory, State.State, State.on_memory, Calls.done, Calls.answered, Calls.waiting, Ports.performed as performed_action, Step.request}
use Rattle.execmodel.proofs.{Commands.performed_memory, Asking.state_of}

-- system time, as a part of a state
abbrev pub system_of : State → ℕ
system_of s = s.memory.timer.system

-- a call begins a request that sets system time, and that becomes its time
pub record Sets (word : RequestWord) (request : ℕ) (s : State) (system : ℕ) : Type 0 where
  pub begins : (word ≡ requests.SendIO) ⊎ (word ≡ requests.DoIO)
  pub sets : sets_time (request_of request s.memory.heap) ≡ true
  pub becomes : system ≡ time_of (request_of request s.memory.heap)

-- system time stays, or is set
abbrev pub Leaves : RequestWord → ℕ → State → State → Type 0
Leaves word request s r = (system_of r ≡ system_of s) ⊎ Sets word request s (system_of r)

abbrev begun_by : (sets waits until : Bool) (new at due : ℕ) (error : ℤ) → ℕ → Timer → Timer
begun_by sets waits until new at due error request timer =
    timer_begun (if sets then NewTime new else (if waits then (if until then Until at else Queue due) else Finish error)) request timer

begun_tested : (sets waits until : Bool) (new at due : ℕ) (error : ℤ) (request : ℕ) (timer : Timer)
    → ((begun_by sets waits until new at due error request timer).system ≡ timer.system)
    ⊎ ((sets ≡ true) × ((begun_by sets waits until new at due error request timer).system ≡ new))
begun_tested true waits until new at due error request timer = inr (refl, refl)
begun_tested false true true new at due error request timer = inl refl
begun_tested false true false new at due error request timer = inl refl
begun_tested false false until new at due error request timer = inl refl

pub begun_leaves : (word : RequestWord) (request : ℕ) (quick : Bool) (s r : State) → (word ≡ requests.SendIO) ⊎ (word ≡ requests.DoIO)
    → r.memory.timer ≡ (begun_at quick request s.memory).timer → Leaves word request s r
unfolding begun_at
begun_leaves word request quick s r begins same =
    let q = request_of request s.memory.heap in
    let system = ap (λ (timer : Timer). timer.system) same in
    elim (begun_tested (sets_time q) (is_to_wait s.memory.timer.system q) (is_until q) (time_of q) (time_of q)
    (due_of s.memory.timer.clock q) (error_of q) request s.memory.timer) [
      | inl stays ↦ inl (system ∙ stays)
      | inr new ↦ inr (record { begins = begins; sets = new.0; becomes = system ∙ new.1 })
    ]

pub looks_same : (how : ReqState) (request t : ℕ) (call : Call) (s : State)
    → (looks_for how request t call s).state.memory.timer ≡ s.memory.timer
unfolding waiting answered
looks_same Idle request t call s = refl
looks_same _ request t call s = refl

pub sends_leaves : (request t : ℕ) (call : Call) (port : Option ℕ) (act : Action) (s : State)
    → Leaves requests.SendIO request s
    (with_reply port request (done t call (performed_action act (on_memory (begun_at false request) s)))).state
unfolding done
sends_leaves request t call port act s =
    let next = on_memory (begun_at false request) s in
    let o = done t call (performed_action act next) in
    begun_leaves requests.SendIO request false s (with_reply port request o).state (inl refl)
    (ap (λ (r : State). r.memory.timer) (state_of port request o) ∙ ap (λ (m : Memory). m.timer) (performed_memory act next))

pub aborts_same : (test : Bool) (request t : ℕ) (call : Call) (s : State) → system_of (aborts test request t call s).state ≡ system_of s
unfolding answered ended
aborts_same true request t call s =
    let found = answering_port request s.memory.heap in
    let act = acting_at found s.memory.heap in
    let next = on_memory (ended (negsuc 1) request) s in
    ap system_of (state_of found request (answered t call 0 (performed_action act next)))
    ∙ ap (λ (m : Memory). m.timer.system) (performed_memory act next)
aborts_same false request t call s = refl
