-- The row of the first line, and those of the others.
use Rattle.execlog.proofs.{Laying.lays_none, Laying.lays_rows, Logging.whole_then}
use Rattle.execlog.proofs.plain.Plain.push_rows.Goals as goal

pub returns-in-None : goal.returns-in-None
returns-in-None c = whole_then c.push_rest.result (λ added. lays_none c.in-None.ensures added) c.push_rest.ensures

pub returns-in_ok-cursor-in-Some : goal.returns-in_ok-cursor-in-Some
returns-in_ok-cursor-in-Some c = whole_then c.push_lines.result (λ others. lays_rows c.in-Some.ensures c.in_ok-cursor-in-Some.ensures others) c.push_lines.ensures
