-- The proof of `add_bytes`: adds a text of any length to the line, as `add` does.
use Rattle.exectrace.proofs.Pieces.{adds_fitting}
use Rattle.exectrace.proofs.printing.add_bytes.Goals as goal

pub returns-in-Ok : goal.returns-in-Ok
returns-in-Ok g c = adds_fitting _ _ _ _ c.in-Ok.ensures.ok
