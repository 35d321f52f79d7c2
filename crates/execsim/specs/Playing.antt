-- What a listener hears of a machine.
use Rattle.std.specs.Prelude.{◌≡◌, not}
use Rattle.exectrace.specs.Hearing.{Hearing}
use Rattle.execmodel.specs.State.{State, Outcome}
use Rattle.execsim.specs.{Agreement.FollowsWhileGood, Headline.Shown, Headline.flow_of, declared.machine.Flow.Flow}

-- The machine goes on as the action says, from any state that it agrees with, and the listener heard what happened. One
-- that listens no more fails the machine: what that holds then is of no account.
pub record Plays (H : Hearing) (next : State → Outcome) (old new : Shown) (before after : H.Told) (result : Flow) : Type 0 where
  pub follows : FollowsWhileGood H next old.seen new.seen before after
  pub failed : new.failed ≡ not (H.good after)
  pub flow : result ≡ flow_of new.seen.stopped
