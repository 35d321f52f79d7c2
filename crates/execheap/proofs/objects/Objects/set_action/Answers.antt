-- The port has the signal that it had, and the same ports and messages live.
use Rattle.std.proofs.Common.{ap, ◌∙◌, IsTrue}
use Rattle.msgport.specs.Ports.{is_port}
use Rattle.execheap.specs.Numbered.{Numbered}
use Rattle.execheap.proofs.KeptPorts.{kept_port_set}
use Rattle.execheap.proofs.objects.Objects.set_action.Goals as goal

pub invariant_of-self : goal.invariant_of-self
invariant_of-self g c =
    let lives : IsTrue (is_port c.args.p c.self.inside.ports) =
    ap (λ (s : Numbered). is_port c.args.p s.ports) c.self.view_is ∙ c.requires in
    kept_port_set c.self.invariant _ c.args.p _ lives (c.self.invariant.apt.own_signals c.args.p lives) c.set_action.ensures
