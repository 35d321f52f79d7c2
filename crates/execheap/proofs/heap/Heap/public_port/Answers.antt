-- The public port of the name that is shown is answered.
use Rattle.std.proofs.Common.{ap, sym, ◌∙◌}
use Rattle.execmodel.specs.State.{Memory}
use Rattle.execheap.specs.Queues.{port_named}
use Rattle.execheap.proofs.Queues.{public_shown}
use Rattle.execheap.proofs.heap.Heap.public_port.Goals as goal

pub returns : goal.returns
returns g c =
    c.public_port.ensures ∙ sym (public_shown c.self.inside.objects c.args.name.now)
    ∙ ap (λ (m : Memory). port_named c.args.name.now m.public) c.self.view_is
