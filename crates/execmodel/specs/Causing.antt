-- Calls on interrupts (RKM Libraries, Exec Interrupts: software interrupts).
use Rattle.std.specs.Prelude.{ℕ, [], unwrap_or}
use Rattle.script.specs.declared.word.interrupts.InterruptWord.{InterruptWord}
use Rattle.script.specs.declared.word.interrupts.InterruptWord.TheVariants as word
use Rattle.execmodel.specs.{State.Call, State.State, State.Outcome, Calls.Caller, Calls.ByTask, Calls.name_argument, Calls.done_by, Pending.causes, Pending.softint_number}

-- Cause name: the software interrupt of that name is caused (autodoc exec.library/Cause)
abbrev pub does_cause_by : Caller → Call → State → Outcome
does_cause_by c call s = done_by c call (causes (softint_number (unwrap_or (name_argument 0 call) []) s.bodies.softints) s)

-- Cause, called by task t (autodoc Cause)
unfoldable pub does_cause : ℕ → Call → State → Outcome
does_cause t call s = does_cause_by (ByTask t) call s

-- ---- the words of this group

-- a call of task t on interrupts, by its word: Cause is the only one
abbrev pub does_interrupts : InterruptWord → ℕ → Call → State → Outcome
does_interrupts word.Cause t call s = does_cause t call s
