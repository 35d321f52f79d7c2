-- The row of the line is that of all.
use Rattle.std.proofs.Common.{arith}
use Rattle.execlog.proofs.{Laying.follows_nothing, Laying.lays_rows, Logging.whole_then}
use Rattle.execlog.proofs.plain.Plain.push_only.Goals as goal

pub returns : goal.returns
returns c = whole_then c.push_command.result
    (λ one. lays_rows c.cut_at.ensures.cut one (follows_nothing (omega (arith, c.cut_at.ensures.rest, c.requires.0)))) c.push_command.ensures
