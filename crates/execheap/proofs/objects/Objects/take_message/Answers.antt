-- The same ports and messages live, and what is first in a port has an address.
use Rattle.std.proofs.Common.{subst, sym}
use Rattle.execheap.specs.Numbered.{IsKnown}
use Rattle.execheap.proofs.{KeptPorts.kept_taken, MessagePlaces.first_lives}
use Rattle.execheap.proofs.objects.Objects.take_message.Goals as goal

pub invariant_of-self : goal.invariant_of-self
invariant_of-self g c =
    kept_taken c.self.invariant c.args.p _ _ c.get.ensures.next

pub returns-clause-live : goal.returns-clause-live
returns-clause-live g c =
    let known = subst IsKnown (sym c.self.view_is) c.facts.ensures in
    first_lives known.sound known.ports c.args.p c.get.result c.get.ensures.value
