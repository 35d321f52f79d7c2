-- There is time for the ticks of the events.
use Rattle.std.proofs.Common.{arith, sum_by}
use Rattle.script.specs.Events.{event_ticks}
use Rattle.execsim.proofs.Clock.{time_for_fewer}
use Rattle.execlog.specs.Log.{turns}
use Rattle.logforms.proofs.making.run_events.Goals as goal

pub write_log-requires-clause-time : goal.write_log-requires-clause-time
write_log-requires-clause-time g c = time_for_fewer (sum_by event_ticks c.args.events.now) 1000000 c.args.machine.now.seen c.requires.time c.requires.left
