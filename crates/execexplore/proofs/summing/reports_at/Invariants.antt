-- The reports so far are at the paths so far.
use Rattle.std.proofs.Common.{take}
use Rattle.execexplore.specs.Summing.{AreAt}
use Rattle.execexplore.proofs.summing.reports_at.Given as goal

abbrev pub invariant-loop-path : goal.invariant-loop-path
invariant-loop-path g l = AreAt (g.T.Texts.text_at l.texts) (take l.path-index l.paths) l.reports.items
