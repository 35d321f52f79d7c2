-- The proof of `put_long_between`: puts a text between two others, all of which may have no room in one piece.
use Rattle.std.proofs.Common.{refl}
use Rattle.exectrace.proofs.Pieces.{adds_then, adds_all}
use Rattle.exectrace.proofs.printing.put_long_between.Goals as goal

pub returns : goal.returns
returns g c =
    let text = adds_then _ (adds_then _ c.add.ensures c.add_bytes.ensures refl) c.add-2.ensures refl in
    adds_all c.new-line.ensures text c.hand_over.ensures
