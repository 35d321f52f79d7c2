-- The proof of `add_beyond`: hands over the line and a text that does not fit its room, and begins the line anew.
use Rattle.exectrace.proofs.Pieces.{adds_over}
use Rattle.exectrace.proofs.printing.add_beyond.Goals as goal

pub returns : goal.returns
returns g c = adds_over c.hand_over.ensures c.put.ensures c.clear.ensures
