-- The proof of `look_at`: looks at a unit for the last chunk below `top`, if no block begins between the two.
use Rattle.std.proofs.Common.{arith}
use Rattle.memlist.proofs.Descending.{look-chunk, look-empty, look-full}
use Rattle.memlist.proofs.descent.look_at.Goals as goal

pub returns-then-slot-eq0 : goal.returns-then-slot-eq0
returns-then-slot-eq0 c base slots at = look-empty base slots c.args.slot c.args.unit c.args.top c.if-slot-eq0.true c.requires at

pub returns-then-slot-top : goal.returns-then-slot-top
returns-then-slot-top c base slots at = look-chunk base slots c.args.slot c.args.unit c.args.top c.if-slot-eq0.false c.if-slot-top.true at

pub returns-else-slot-top : goal.returns-else-slot-top
returns-else-slot-top c base slots at = look-full base slots c.args.slot c.args.unit c.args.top c.if-slot-eq0.false (omega (arith, c.if-slot-top.false)) at
