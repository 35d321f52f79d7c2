-- The proof of `put_long_call`: puts the line of a call whose parts may have no room in one piece.
use Rattle.std.proofs.Common.{refl, codes}
use Rattle.exectrace.specs.{Trace.outcome_text, Shown.shown_outcome}
use Rattle.exectrace.proofs.Pieces.{adds_then, adds_both, adds_all}
use Rattle.exectrace.proofs.printing.put_long_call.Goals as goal

pub returns : goal.returns
returns g c =
    let named = adds_then _ c.add_name.ensures c.add.ensures refl in
    let worded = adds_then _ named c.add_text.ensures refl in
    let given = adds_then _ worded c.add_short_arguments.ensures refl in
    adds_all c.new-line.ensures (adds_both (outcome_text (shown_outcome c.args.outcome)) (codes "\n") given c.add_end.ensures) c.hand_over.ensures
