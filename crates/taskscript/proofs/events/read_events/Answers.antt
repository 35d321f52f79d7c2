-- The proof of `read_events`: reads an event text.
use Rattle.taskscript.proofs.EventTurns.{decided, texts}
use Rattle.taskscript.proofs.events.read_events.Goals as goal

pub returns : goal.returns
returns c = decided c.args.text.now (texts c.in_ok-lines.lines.items) c.events_of.result c.in_ok-lines.ensures (rw c.deref.ensures.value at c.events_of.ensures)
