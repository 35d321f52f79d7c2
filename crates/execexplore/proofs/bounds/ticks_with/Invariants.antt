-- The ticks so far.
use Rattle.std.proofs.Common.{◌≡◌, ◌+◌, ◌-◌, ◌^◌, min, take, sum_by}
use Rattle.script.specs.Events.{event_ticks}
use Rattle.execexplore.proofs.bounds.ticks_with.Given as goal

abbrev pub invariant-loop-action : goal.invariant-loop-action
invariant-loop-action l = l.ticks ≡ min (sum_by event_ticks (take l.action-index l.actions) + l.more) (2 ^ 64 - 1)
