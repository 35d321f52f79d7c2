-- What is put at a port is held no more, and stays linked to what lives.
use Rattle.std.proofs.Common.{IsTrue, not, sym, subst}
use Rattle.msgport.specs.Ports.{MessagePorts, is_port, is_message, is_linked}
use Rattle.msgport.proofs.Linking.{appended_held, neither, not_in}
use Rattle.msgport.proofs.ports.Ports.append.Goals as goal

pub invariant_of-self : goal.invariant_of-self
invariant_of-self g c =
    let port = subst (λ (s : MessagePorts). IsTrue (is_port c.args.p s)) (sym c.self.view_is) c.requires.port in
    let message = subst (λ (s : MessagePorts). IsTrue (is_message c.args.m s)) (sym c.self.view_is) c.requires.message in
    let loose = subst (λ (s : MessagePorts). IsTrue (not (is_linked c.args.m s))) (sym c.self.view_is) c.requires.loose in
    rw c.add_tail.ensures.placed (rw c.add_tail.ensures.homes
    (appended_held c.self.invariant c.args.p c.args.m port message
    (not_in _ c.args.m _ c.self.invariant.one_store (λ h. g.met.S.ListSpace.stands c.self.inside.held h c.args.m) (neither _ _ loose).1)))
