-- The same ports and messages live.
use Rattle.std.proofs.Common.{refl}
use Rattle.execheap.proofs.KeptPorts.{kept_linked, kept_unless}
use Rattle.execheap.proofs.objects.Objects.add_port.Goals as goal

pub invariant_of-self : goal.invariant_of-self
invariant_of-self g c =
    kept_unless c.self.invariant _ _ _ c.add_port.ensures.next (kept_linked c.self.invariant _ refl refl refl (λ r p there. there))
