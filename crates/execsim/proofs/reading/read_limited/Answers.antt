-- The proof of `read_limited`: all bytes that a reader has left, if they are at most `FILE_LIMIT`.
use Rattle.std.proofs.Common.{rules}
use Rattle.std.proofs.lemmas.Result.{err_from_is_err_and}
use Rattle.execsim.proofs.ReadLemmas.{fault_after}
use Rattle.execsim.proofs.reading.read_limited.Goals as goal

pub returns-in_err-read_piece-clause-fault : goal.returns-in_err-read_piece-clause-fault
returns-in_err-read_piece-clause-fault g c =
    let p = err_from_is_err_and c.from_residual.result c.from_residual.ensures.1 in
    rw (p.1, p.2) (fault_after _ _ _ 4194304 _ c.loop-piece.bytes.items c.in_err-read_piece.field-0.0 c.loop-piece.invariant.0 c.loop-piece.bytes.ok.0 (search rules)
    c.in_err-read_piece.ensures.fault)
