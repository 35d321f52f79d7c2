-- What is left stays linked to what lives.
use Rattle.msgport.proofs.Linking.{taken_held}
use Rattle.msgport.proofs.ports.Ports.take_out.Goals as goal

pub invariant_of-self : goal.invariant_of-self
invariant_of-self g c = rw c.remove.ensures.homes
    (taken_held c.self.invariant c.args.m (g.S.ListSpace.sequences c.remove.new.self) c.remove.ensures.headers)
