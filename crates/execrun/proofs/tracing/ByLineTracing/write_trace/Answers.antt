-- The proof of `ByLine::write_trace`: writes each line of the trace by a call of the writer.
use Rattle.std.proofs.Common.{rules}
use Rattle.execrun.proofs.LentLemmas.{writes_trace}
use Rattle.execrun.proofs.tracing.ByLineTracing.write_trace.Goals as goal

-- the loan that comes back is the one that was made, so what the sink took is in `out`
pub returns : goal.returns
returns g c =
    let lent = c.into_inner-lent.result.out in
    writes_trace _ _ _ lent.ghost_name _ (g.W.Write.contents lent.now) _ _ _ c.simulate-ended.result c.is_ok-flushed.result _
    c.new-sink.ensures c.into_inner-lent.ensures c.simulate-ended.ensures
    (λ same. let kept = c.flush.ensures.bytes in search rules) c.answer.ensures
