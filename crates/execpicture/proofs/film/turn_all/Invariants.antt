-- The machine has not failed, and has time for the events that are left.
use Rattle.std.proofs.Common.{◌≡◌, false, drop, sum_by}
use Rattle.script.specs.Events.{event_ticks}
use Rattle.execsim.specs.Time.{HasTimeFor}
use Rattle.execpicture.proofs.film.turn_all.Given as goal

abbrev pub invariant-loop-one : goal.invariant-loop-one
invariant-loop-one g l = record {
  going : l.machine.failed ≡ false;
  time : HasTimeFor (sum_by event_ticks (drop l.one-index l.list)) l.machine.seen;
}
