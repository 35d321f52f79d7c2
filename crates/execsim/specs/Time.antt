-- The time that is left: the sums of the clock stay below 2 to the power 64. What is added to it, the longest time of a
-- request and what system time is ahead, is less than 2 to the power 54.
use Rattle.std.specs.Prelude.{ℕ, ◌+◌, ◌*◌, ◌^◌, ◌≤◌}
use Rattle.execmodel.specs.State.{State}
use Rattle.execsim.specs.{Agreement.Seen, Agreement.Agrees, Reached.IsReached}

-- that many ticks may come
abbrev pub HasTimeFor : ℕ → Seen → Type 0
HasTimeFor ticks seen = seen.memory.timer.clock + ticks * seen.memory.timer.tick_micros + 2 ^ 54 ≤ 2 ^ 64

-- the machine shows a state that the abstract machine comes to
pub record IsKnown (seen : Seen) : Type 0 where
  pub state : State
  pub agrees : Agrees seen state
  pub reached : IsReached state

-- the machine shows a state, from which that many ticks may come
pub record IsInTime (ticks : ℕ) (seen : Seen) : Type 0 where
  pub known : IsKnown seen
  pub time : HasTimeFor ticks seen
