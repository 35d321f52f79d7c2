-- The ticks so far, and those that are left.
use Rattle.std.proofs.Common.{◌≡◌, ◌+◌, take, sum_by}
use Rattle.script.specs.Events.{event_ticks}
use Rattle.execsim_c.proofs.session.ticks_after.Given as goal

abbrev pub invariant-loop-event : goal.invariant-loop-event
invariant-loop-event l = l.left + sum_by event_ticks (take l.event-index l.list) ≡ l.ticks
