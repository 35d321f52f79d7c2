-- The proof of `put_call`: puts `NAME WORD{ ARG}`, and ` -> VALUE` or ` waits` by the outcome: the task, server or
-- software interrupt of this name made the call of this word.
use Rattle.std.proofs.Common.{refl, codes}
use Rattle.exectrace.specs.{Trace.outcome_text, Shown.shown_outcome}
use Rattle.exectrace.proofs.Pieces.{adds_then, adds_both, adds_all}
use Rattle.exectrace.proofs.printing.put_call.Goals as goal

pub returns : goal.returns
returns g c =
    let named = adds_then _ c.add_name.ensures c.add.ensures refl in
    let worded = adds_then _ named c.add_text.ensures refl in
    let given = adds_then _ worded c.add_arguments.ensures refl in
    adds_all c.new-line.ensures (adds_both (outcome_text (shown_outcome c.args.outcome)) (codes "\n") given c.add_end.ensures) c.hand_over.ensures
