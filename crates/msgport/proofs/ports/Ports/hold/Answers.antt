-- A message that may be put anywhere is not held yet.
use Rattle.std.proofs.Common.{◌∙◌, not, IsTrue, sym, subst}
use Rattle.msgport.specs.Ports.{MessagePorts, is_linked}
use Rattle.msgport.proofs.Linking.{loose_of, neither, not_in}
use Rattle.msgport.proofs.ports.Ports.hold.Goals as goal

pub add_tail-requires-clause-unlinked : goal.add_tail-requires-clause-unlinked
add_tail-requires-clause-unlinked g c =
    let loose = subst (λ (s : MessagePorts). IsTrue (not (is_linked c.args.m s))) (sym c.self.view_is) (loose_of c.args.m c.args.self.now (sym c.linked_fault.ensures ∙ c.in-None.is)) in
    not_in _ c.args.m _ c.self.invariant.one_store (λ h. g.met.S.ListSpace.stands c.self.inside.held h c.args.m) (neither _ _ loose).1
