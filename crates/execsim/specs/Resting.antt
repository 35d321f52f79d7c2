-- A machine in which nothing is due that a settle would do.
use Rattle.std.specs.Prelude.{◌≡◌, ℕ, false, is_some, None}
use Rattle.execlist.specs.Disciplines.{by_priority}
use Rattle.scheduler.specs.Dispatch.{rescheduled, switch_of}
use Rattle.softint.specs.Sources.{highest}
use Rattle.execsim.specs.{Actions.softint_seen, Agreement.Seen, Callers.HasTask, Callers.Runs}

-- no alert has stopped the machine, no source asks to be served, no switch is due, and no quantum begins anew
pub record IsSettled (seen : Seen) : Type 0 where
  pub going : seen.stopped ≡ false
  pub unasked : is_some (highest seen.pending.latches) ≡ false
  pub unswitched : switch_of by_priority seen.schedule ≡ None
  pub stays : rescheduled by_priority seen.schedule ≡ seen.schedule

-- task t runs in a settled machine, in which no software interrupt is caused
pub record Rests (t : ℕ) (seen : Seen) : Type 0 where
  pub known : HasTask t seen
  pub runs : Runs t seen
  pub settled : IsSettled seen
  pub uncaused : softint_seen seen ≡ None
