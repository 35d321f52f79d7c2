-- The proof of `visit_part`: visits the ways with at most that many extras among the actions from number `skip` on,
-- `left` of them, each once and in their order.
use Rattle.std.proofs.lemmas.Result.{on_ok_weaker}
use Rattle.ways.specs.Ways.{ways}
use Rattle.ways.proofs.Parts.{state_after}
use Rattle.ways.proofs.visiting.visit_part.Goals as goal

pub returns : goal.returns
returns g c =
    on_ok_weaker c.visit_most.result
    (λ e. state_after g.V.Visitor.after c.args.part.skip c.args.part.left c.visit_most.new.window.skip c.visit_most.new.window.left c.args.visitor.now c.visit_most.new.visitor
    (ways c.args.kinds.now c.args.sizes.now.most c.args.actions.now) e)
    c.visit_most.ensures.visits
