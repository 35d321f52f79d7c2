-- How a call on an object ends, which may be refused.
use Rattle.std.specs.Prelude.{ℕ, Result, Ok, Err}
use Rattle.execmodel.specs.{State.Call, State.State, State.Outcome, Calls.Caller, Calls.ByTask, Calls.done_by, Calls.answered_by, Calls.alerted_by}
use Rattle.execheap.specs.{declared.refusal.Refusal.Refusal, Refusals.code_of}

-- a call that answers nothing: it is done, or stops the machine by its alert
abbrev pub done_or_alerted_by : Result (Unit {0}) Refusal → Caller → Call → State → Outcome
done_or_alerted_by (Ok nothing) c call s = done_by c call s
done_or_alerted_by (Err why) c call s = alerted_by (code_of why) c call s

abbrev pub done_or_alerted : Result (Unit {0}) Refusal → ℕ → Call → State → Outcome
done_or_alerted tried t call s = done_or_alerted_by tried (ByTask t) call s

-- a call that answers: it does, or stops the machine by its alert
abbrev pub answered_or_alerted_by : Result ℕ Refusal → Caller → Call → State → Outcome
answered_or_alerted_by (Ok value) c call s = answered_by c call value s
answered_or_alerted_by (Err why) c call s = alerted_by (code_of why) c call s

abbrev pub answered_or_alerted : Result ℕ Refusal → ℕ → Call → State → Outcome
answered_or_alerted tried t call s = answered_or_alerted_by tried (ByTask t) call s
