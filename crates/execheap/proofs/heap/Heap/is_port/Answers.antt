-- A port begins there if the blocks have a number of one.
use Rattle.std.proofs.Common.{ap, is_some, sym, ◌∙◌}
use Rattle.execmodel.specs.{State.Memory, Ports.is_port_at}
use Rattle.execheap.proofs.Shown.{port_at_shown}
use Rattle.execheap.proofs.heap.Heap.is_port.Goals as goal

pub returns : goal.returns
returns g c =
    c.is_some.ensures ∙ ap is_some c.number_at.ensures.value ∙ sym (port_at_shown c.self.inside.objects c.args.port)
    ∙ ap (λ (m : Memory). is_port_at c.args.port m.heap) c.self.view_is
