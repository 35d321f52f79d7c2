-- The proof of `add`: adds a part of fixed length to the line. What does not fit its room is handed over at once.
use Rattle.exectrace.proofs.Pieces.{adds_fitting}
use Rattle.exectrace.proofs.printing.add.Goals as goal

pub returns-in-Ok : goal.returns-in-Ok
returns-in-Ok g c = adds_fitting _ _ _ _ c.in-Ok.ensures.ok
