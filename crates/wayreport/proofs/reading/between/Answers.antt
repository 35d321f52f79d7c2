-- The proof of `between`: what is after the front is cut at the first mark.
use Rattle.std.proofs.Common.{◌++◌}
use Rattle.wayreport.proofs.reading.between.Goals as goal

pub returns : goal.returns
returns c = λ inside rest lack is. c.cut.ensures.parts inside rest lack (c.in_ok-after.ensures (inside ++ (c.args.mark.now ++ rest)) is)
