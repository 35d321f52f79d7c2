-- Steps of which only the first may print.
use Rattle.std.specs.Prelude.{◌≡◌, ◌+◌, ◌≤◌, ◌↔◌, ⊤, Bool, false, true, ℕ, zero, suc, [], Result, IfOk, IsOk, MatchResult}
use Rattle.exectrace.specs.{Sink.Tape, Sink.Writes, Trace.printed, declared.sinks.SinkState.TheVariants.Good, declared.sinks.WriteFault.WriteFault}
use Rattle.exectrace.specs.Hearing.{Hearing}
use Rattle.script.specs.declared.event.Event.TheVariants.{Run}
use Rattle.execmodel.specs.{State.State, Step.event, Step.step, Step.steps}
use Rattle.execsim.specs.{Agreement.Seen, Agreement.Agrees, Agreement.Follows, Agreement.Quietly, Changes.ChangesScripts, Headline.Shown}

-- that many steps, each of which prints nothing
abbrev pub IsSilent : ℕ → State → Type 0
IsSilent zero s = ⊤
IsSilent (suc n) s = (printed (event (Run 1) s).lines ≡ []) × IsSilent n (event (Run 1) s).state

-- The machine goes on by that many steps, which print nothing.
pub record GoesSilently (n : ℕ) (old new : Seen) : Type 0 where
  pub follows : Quietly (steps n) old new
  pub silent : (s : State) → Agrees old s → IsSilent n s
  pub changes : ChangesScripts old new

-- The machine goes on by a step, and by that many more, which print nothing.
pub record StepsSilently (H : Hearing) (n : ℕ) (old new : Seen) (before after : H.Told) : Type 0 where
  pub between : Seen
  pub first : Follows H step old between before after
  pub others : GoesSilently n between new

-- After some steps the answer is how many they were, or that the sink has failed, which fails the machine.
pub record Ends (n : ℕ) (failed : Bool) (out : Tape) (result : Result ℕ WriteFault) : Type 0 where
  pub written : IsOk result ↔ (out.state ≡ Good)
  pub going : IfOk result (λ k. (k ≡ n) × (failed ≡ false))
  pub failing : MatchResult result (λ _. Unit {0}) (λ _. failed ≡ true)

-- The machine goes on by a step, whose lines are written, and by as many steps more as the answer says, within a limit,
-- which print nothing and leave the clock as it is. A failed write fails it.
pub record Advances (more : ℕ) (old new : Shown) (before after : Tape) (result : Result ℕ WriteFault) : Type 0 where
  pub within : IfOk result (λ n. n ≤ more)
  pub agrees : (s : State) → Agrees old.seen s → IfOk result (λ n. Agrees new.seen (steps (n + 1) s).state)
  pub writes : (s : State) → Agrees old.seen s → Writes before after (printed (event (Run 1) s).lines) result
  pub silent : (s : State) → Agrees old.seen s → IfOk result (λ n. IsSilent n (event (Run 1) s).state)
  pub timer : (s : State) → Agrees old.seen s
      → IfOk result (λ n. (steps (n + 1) s).state.memory.timer ≡ (event (Run 1) s).state.memory.timer)
  pub going : IfOk result (λ n. new.failed ≡ false)
  pub failing : MatchResult result (λ _. Unit {0}) (λ _. new.failed ≡ true)
