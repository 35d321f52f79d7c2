-- The proof of `turn_once`: what has time for one more, has time for the rest without it.
use Rattle.std.proofs.Common.{◌+◌, ℕ, arith}
use Rattle.script.specs.Events.{event_ticks}
use Rattle.execsim.proofs.Clock.{time_for_fewer}
use Rattle.execpicture.proofs.film.turn_once.Goals as goal

pub returns-then-is_over-clause-time : goal.returns-then-is_over-clause-time
returns-then-is_over-clause-time g c = λ ticks enough. time_for_fewer ticks (event_ticks c.args.one + ticks) c.args.machine.now.seen (omega arith) enough
