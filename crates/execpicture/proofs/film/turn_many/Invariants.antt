-- The machine has not failed, and has the time that the turns so far leave.
use Rattle.std.proofs.Common.{◌≡◌, ◌+◌, ◌*◌, ℕ, false}
use Rattle.script.specs.Events.{event_ticks}
use Rattle.execsim.specs.Time.{HasTimeFor}
use Rattle.execpicture.proofs.film.turn_many.Given as goal

abbrev pub invariant-loop-turn : goal.invariant-loop-turn
invariant-loop-turn g l = record {
  going : l.machine.failed ≡ false;
  time : (ticks : ℕ) → HasTimeFor (l._turn * event_ticks l.one + ticks) l.initial.machine.seen → HasTimeFor ticks l.machine.seen;
}
