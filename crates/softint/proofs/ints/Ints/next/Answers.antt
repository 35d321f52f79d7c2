-- What is taken off leaves its header, and was in no other.
use Rattle.std.proofs.Common.{sym, arith}
use Rattle.std.proofs.lemmas.List.{length-map}
use Rattle.softint.specs.declared.interrupt.Soft.{Soft}
use Rattle.softint.proofs.Headers.{departure, caused_less, soft_known}
use Rattle.softint.proofs.ints.Ints.next.Goals as goal

pub returns-clause-next : goal.returns-clause-next
returns-clause-next g c =
    let caused = c.self.inside.caused in
    let all = g.S.ListSpace.sequences caused in
    let i = c.in_ok-i.i in
    caused_less c.self.view_is i _ (sym c.in_ok-i.ensures.value)
    (departure all (g.S.ListSpace.sequences c.remove.new.self) (g.S.ListSpace.homes caused) i (g.met.S.ListSpace.stands caused) c.in_ok-i.ensures.home c.remove.ensures.taken)

pub returns-clause-known : goal.returns-clause-known
returns-clause-known g c =
    omega (arith, soft_known (g.S.ListSpace.homes c.self.inside.caused) c.in_ok-i.i c.in_ok-i.ensures.home, c.self.invariant.0.each_soft, length-map c.self.inside.softs.items (λ (s : Soft). s.pri))
