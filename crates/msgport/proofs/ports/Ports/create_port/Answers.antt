-- A message is in a live port alone, so that a port that was free has none.
use Rattle.std.proofs.Common.{ap, ◌∙◌, not, is_some, sym}
use Rattle.execlist.specs.Order.{first}
use Rattle.msgport.specs.Ports.{is_port}
use Rattle.msgport.proofs.Linking.{empty_where}
use Rattle.msgport.proofs.ports.Ports.create_port.Goals as goal

pub returns-in-Some-clause-empty : goal.returns-in-Some-clause-empty
returns-in-Some-clause-empty g c =
    ap (λ xs. not (is_some (first xs))) (empty_where (g.S.ListSpace.sequences c.self.inside.queues) (g.S.ListSpace.homes c.self.inside.queues) c.in-Some.p
    (λ m. g.met.S.ListSpace.stands c.self.inside.queues c.in-Some.p m)
    (λ m e. let bad = sym c.in-Some.ensures.free ∙ ap (λ s. not (is_port c.in-Some.p s)) (sym c.self.view_is)
    ∙ ap not (c.self.invariant.live_port m c.in-Some.p e) in cc))
