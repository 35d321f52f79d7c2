-- The proof of `visit_most`: visits the ways of a part with at most that many extras.
use Rattle.std.proofs.Common.{◌+◌, arith}
use Rattle.ways.specs.{Ways.passes, Windows.passing}
use Rattle.ways.proofs.WayLemmas.{extra_more}
use Rattle.ways.proofs.visiting.visit_most.Goals as goal

pub loop-fewer-preserved : goal.loop-fewer-preserved
loop-fewer-preserved g c =
    extra_more (passes g.V.Visitor.after) (passing c.args.window.now c.args.visitor.now) (passing c.loop-fewer.window c.loop-fewer.visitor) (passing c.visit_exactly-in-loop-fewer.new.window c.visit_exactly-in-loop-fewer.new.visitor)
    c.args.kinds.now c.args.actions.now c.loop-fewer.fewer (c.loop-fewer.fewer + 1) (omega arith) c.loop-fewer.invariant c.in_ok-visit_exactly-2.ensures.visits
