-- The proof of `add_answer`: adds the answer and the line feed.
use Rattle.std.proofs.Common.{◌++◌, ap, ◌∙◌}
use Rattle.exectrace.proofs.Pieces.{adds_fitting}
use Rattle.exectrace.proofs.printing.add_answer.Goals as goal

pub returns-in-Ok : goal.returns-in-Ok
returns-in-Ok g c = adds_fitting _ _ _ _ (c.in-Ok.ensures.ok ∙ ap (λ text. c.args.line.now.items ++ text) c.answer_end.ensures)
