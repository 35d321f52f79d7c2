-- Nothing is linked to the port that is freed.
use Rattle.std.proofs.Common.{not, IsTrue, sym, subst}
use Rattle.msgport.specs.Ports.{MessagePorts, is_public, has_messages}
use Rattle.msgport.proofs.Linking.{not_listed, nobody_at, freed_held}
use Rattle.msgport.proofs.ports.Ports.free_port.Goals as goal

pub invariant_of-self : goal.invariant_of-self
invariant_of-self g c =
    let private = subst (λ (s : MessagePorts). IsTrue (not (is_public c.args.p s))) (sym c.self.view_is) c.requires.private in
    let empty = subst (λ (s : MessagePorts). IsTrue (not (has_messages c.args.p s))) (sym c.self.view_is) c.requires.empty in
    rw c.release.ensures
    (freed_held c.self.invariant c.args.p
    (λ m. nobody_at (g.S.ListSpace.sequences c.self.inside.queues) m c.args.p _ (g.met.S.ListSpace.stands c.self.inside.queues c.args.p m) empty)
    (not_listed _ c.args.p _ c.self.invariant.one_list (λ h. g.met.S.ListSpace.stands c.self.inside.public h c.args.p) private))
