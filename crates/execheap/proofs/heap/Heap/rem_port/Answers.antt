-- The port that is shown is public no more.
use Rattle.std.proofs.Common.{ap, ◌∙◌}
use Rattle.execmodel.specs.Ports.{made_private}
use Rattle.execheap.specs.Numbered.{shown_memory}
use Rattle.execheap.proofs.Public.{made_private_shown}
use Rattle.execheap.proofs.heap.Heap.rem_port.Goals as goal

pub returns-clause-next : goal.returns-clause-next
returns-clause-next g c =
    let f = c.in_ok-p.ensures.known in
    ap shown_memory c.rem_port.ensures
    ∙ made_private_shown f.sound f.ports c.in_ok-p.p c.args.port c.in_ok-p.ensures.found ∙ ap (made_private c.args.port) c.self.view_is
