-- The proof of `put_alert`: puts `alert CODE NAME WORD`: the call of this word, by the task, server or software
-- interrupt of this name, was refused for the reason that the code names.
use Rattle.std.proofs.Common.{refl}
use Rattle.exectrace.proofs.Pieces.{adds_then, adds_all}
use Rattle.exectrace.proofs.printing.put_alert.Goals as goal

pub returns : goal.returns
returns g c =
    let coded = adds_then _ (adds_then _ c.add.ensures c.add_text.ensures refl) c.add-2.ensures refl in
    let named = adds_then _ (adds_then _ coded c.add_name.ensures refl) c.add-3.ensures refl in
    let worded = adds_then _ (adds_then _ named c.add_text-2.ensures refl) c.add-4.ensures refl in
    adds_all c.new-line.ensures worded c.hand_over.ensures
