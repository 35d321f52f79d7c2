-- Nothing is linked to the message that is freed.
use Rattle.std.proofs.Common.{IsTrue, not, sym, subst}
use Rattle.msgport.specs.Ports.{MessagePorts, is_linked}
use Rattle.msgport.proofs.Linking.{unlinked_held, neither, no_home, not_in}
use Rattle.msgport.proofs.ports.Ports.free_message.Goals as goal

pub invariant_of-self : goal.invariant_of-self
invariant_of-self g c =
    let loose = subst (λ (s : MessagePorts). IsTrue (not (is_linked c.args.m s))) (sym c.self.view_is) c.requires.loose in
    rw c.release.ensures
    (unlinked_held c.self.invariant c.args.m (no_home _ (neither _ _ loose).0)
    (not_in _ c.args.m _ c.self.invariant.one_store (λ h. g.met.S.ListSpace.stands c.self.inside.held h c.args.m) (neither _ _ loose).1))
