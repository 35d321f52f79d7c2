-- A port that is not public is in no list.
use Rattle.std.proofs.Common.{ap, ◌∙◌, not, IsTrue, sym, subst}
use Rattle.execlist.specs.Lists.{home}
use Rattle.msgport.specs.Ports.{MessagePorts, is_public}
use Rattle.msgport.proofs.Linking.{not_listed}
use Rattle.msgport.proofs.ports.Ports.publish.Goals as goal

pub set_key-requires-clause-unlinked : goal.set_key-requires-clause-unlinked
set_key-requires-clause-unlinked g c =
    not_listed _ c.args.p _ c.self.invariant.one_list (λ h. g.met.S.ListSpace.stands c.self.inside.public h c.args.p)
    (subst (λ (s : MessagePorts). IsTrue (not (is_public c.args.p s))) (sym c.self.view_is) c.requires.private)

pub enqueue-requires-clause-unlinked : goal.enqueue-requires-clause-unlinked
enqueue-requires-clause-unlinked g c = ap (λ homes. home homes c.args.p) c.set_key.ensures.homes
    ∙ not_listed _ c.args.p _ c.self.invariant.one_list (λ h. g.met.S.ListSpace.stands c.self.inside.public h c.args.p)
    (subst (λ (s : MessagePorts). IsTrue (not (is_public c.args.p s))) (sym c.self.view_is) c.requires.private)
