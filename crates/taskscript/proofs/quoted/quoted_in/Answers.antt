-- The proof of `quoted_in`: the name between double quotes, if the field is one.
use Rattle.std.proofs.Common.{arith}
use Rattle.std.proofs.lemmas.Str.{IsCharBoundary-after_ascii}
use Rattle.taskscript.proofs.quoted.quoted_in.Goals as goal

pub range-inside-requires-clause-start_boundary : goal.range-inside-requires-clause-start_boundary
range-inside-requires-clause-start_boundary c = λ _.
    let byte = rw c.as_bytes-bytes.ensures.value at c.if-bytes-ne34.false in
    IsCharBoundary-after_ascii c.args.field.now 0 c.utf8.field (omega arith) (omega arith)
