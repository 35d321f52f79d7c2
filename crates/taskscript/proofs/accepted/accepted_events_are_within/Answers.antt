-- The proof of `accepted_events_are_within`: the events of an accepted text are at most 100,000.
use Rattle.taskscript.proofs.AcceptedTexts.{accepted_events}
use Rattle.taskscript.proofs.accepted.accepted_events_are_within.Goals as goal

pub returns : goal.returns
returns c = accepted_events
