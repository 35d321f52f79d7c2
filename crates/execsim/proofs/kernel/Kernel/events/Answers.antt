-- The proof of `Kernel::events`: one event after another.
use Rattle.execsim.proofs.{Clock.time_for_event, Stepping.no_events, Stepping.more_events}
use Rattle.execsim.proofs.kernel.Kernel.events.Goals as goal

pub loop-one-init : goal.loop-one-init
loop-one-init g c = no_events _ _

pub loop-one-preserved : goal.loop-one-preserved
loop-one-preserved g c = more_events _ _ _ c.loop-one-test.true c.loop-one.invariant c.event.ensures

pub event-requires : goal.event-requires
event-requires g c = time_for_event _ _ _ c.loop-one-test.true c.requires c.loop-one.invariant
