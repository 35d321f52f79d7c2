-- The port that is shown has the action.
use Rattle.std.proofs.Common.{ap, ◌∙◌}
use Rattle.execmodel.specs.{State.on_heap, Ports.with_action}
use Rattle.execheap.specs.Numbered.{shown_memory}
use Rattle.execheap.proofs.Posted.{action_shown}
use Rattle.execheap.proofs.heap.Heap.set_action.Goals as goal

pub returns-clause-next : goal.returns-clause-next
returns-clause-next g c =
    let f = c.in_ok-p.ensures.known in
    ap shown_memory c.set_action.ensures
    ∙ action_shown f.sound f.ports f.memory c.in_ok-p.p c.args.port c.in_ok-p.ensures.found c.in_ok-p.ensures.live c.args.action
    ∙ ap (on_heap (with_action c.args.action c.args.port)) c.self.view_is
