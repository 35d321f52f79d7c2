-- The proof of `write_search`: makes a search of two texts, and writes what it prints.
use Rattle.std.proofs.lemmas.Result.{IfOk-weaker}
use Rattle.execexplore.proofs.arguments.write_search.Goals as goal

pub returns-in-Ok-clause-writes : goal.returns-in-Ok-clause-writes
returns-in-Ok-clause-writes g c =
    IfOk-weaker c.write_found.result _ _ (λ status found. record { frame = c.in-Ok.frame; frames = c.in-Ok.ensures.frame; found = found }) c.write_found.ensures.found
