-- One more row.
use Rattle.execlog.proofs.Laying.{goes_on}
use Rattle.execlog.proofs.plain.Plain.push_lines.Goals as goal

pub loop-line-preserved : goal.loop-line-preserved
loop-line-preserved c = goes_on c.loop-line.invariant c.in-Some.ensures c.in_ok-push_line.ensures.1
