-- The message is another one, and the same ports and messages live.
use Rattle.std.proofs.Common.{ap, ◌∙◌}
use Rattle.msgport.specs.Ports.{is_message}
use Rattle.execheap.specs.Numbered.{Numbered}
use Rattle.execheap.proofs.KeptPorts.{kept_written}
use Rattle.execheap.proofs.objects.Objects.set_word.Goals as goal

pub invariant_of-self : goal.invariant_of-self
invariant_of-self g c =
    kept_written c.self.invariant _ c.args.m _ (ap (λ (s : Numbered). is_message c.args.m s.ports) c.self.view_is ∙ c.requires) c.set_word.ensures
