-- The proof of `document`: the tree that the bytes state.
use Rattle.std.proofs.Common.{sym, ◌∙◌}
use Rattle.std.proofs.lemmas.Bool.{false≢true}
use Rattle.taskscript.proofs.Documents.{no_document, a_document}
use Rattle.taskscript.proofs.tree.document.Goals as goal

pub returns-in-Ok-clause-ok : goal.returns-in-Ok-clause-ok
returns-in-Ok-clause-ok c = a_document _ _ c.in-Ok.ensures.ok.0 c.in-Ok.ensures.ok.1

pub returns-else-is_memory-clause-err : goal.returns-else-is_memory-clause-err
returns-else-is_memory-clause-err c _ = (no_document _ (c.in-Err.ensures.refused (λ m. absurd (false≢true (sym c.if-is_memory.false ∙ c.is_memory.ensures.1 m)))), c.at_file-else-is_memory.ensures)
