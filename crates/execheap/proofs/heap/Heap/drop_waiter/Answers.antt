-- The task waits at no semaphore that is shown.
use Rattle.std.proofs.Common.{ap, ◌∙◌}
use Rattle.execmodel.specs.{State.on_heap, Semaphores.dropped}
use Rattle.execheap.specs.Numbered.{shown_memory}
use Rattle.execheap.proofs.Dropping.{dropped_shown}
use Rattle.execheap.proofs.heap.Heap.drop_waiter.Goals as goal

pub returns : goal.returns
returns g c =
    ap shown_memory c.drop_waiter.ensures ∙ dropped_shown c.self.inside.objects c.facts.ensures.sems c.args.task ∙ ap (on_heap (dropped c.args.task)) c.self.view_is
