-- The proof of `add_quoted`: adds a space and the name between double quotes.
use Rattle.std.proofs.Common.{refl}
use Rattle.exectrace.proofs.Pieces.{adds_then}
use Rattle.exectrace.proofs.printing.add_quoted.Goals as goal

pub returns : goal.returns
returns g c = adds_then _ (adds_then _ c.add.ensures c.add_name.ensures refl) c.add-2.ensures refl
