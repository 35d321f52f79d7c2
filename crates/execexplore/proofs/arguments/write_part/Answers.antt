-- The proof of `write_part`: writes what a search of a part prints.
use Rattle.std.proofs.Common.{refl}
use Rattle.execexplore.proofs.arguments.write_part.Goals as goal

pub returns-in-Ok-end_with-clause-part : goal.returns-in-Ok-end_with-clause-part
returns-in-Ok-end_with-clause-part g c =
    (refl, (c.in-Ok-end_with.field-0, record { answer = c.in-Ok.answer; answers = c.in-Ok.ensures.answers; writes = c.in-Ok-end_with.ensures.writes }))
