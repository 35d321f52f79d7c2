-- What the space enqueues by its keys is enqueued by the priorities.
use Rattle.std.proofs.Common.{ap, ◌∙◌}
use Rattle.execlist.specs.{Order.enqueue, Disciplines.pri_at}
use Rattle.taskq.proofs.TaskLemmas.{arrived}
use Rattle.taskq.proofs.TaskQ.make_ready.Goals as goal

pub returns-clause-ready : goal.returns-clause-ready
returns-clause-ready g c =
    let s = c.self.inside.space in
    arrived (g.S.ListSpace.sequences s) _ (g.S.ListSpace.keys s) c.args.t c.self.invariant.one_header c.enqueue.ensures.placed
    ∙ ap (λ q. enqueue (pri_at q.pris) q.ready c.args.t) c.self.view_is
