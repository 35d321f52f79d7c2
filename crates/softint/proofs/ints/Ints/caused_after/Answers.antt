-- There is no software interrupt of that number, so none is after it.
use Rattle.std.proofs.Common.{◌≤◌, length, ap, sym, ◌∙◌, arith, Option, ℕ}
use Rattle.execlist.specs.{Order.first, Lists.part_from}
use Rattle.softint.specs.Interrupts.{Interrupts, joined}
use Rattle.softint.proofs.Headers.{home_beyond, none_behind}
use Rattle.softint.proofs.ints.Ints.caused_after.Goals as goal

pub returns-else-i-len : goal.returns-else-i-len
returns-else-i-len g c =
    let caused = c.self.inside.caused in
    let homes = g.S.ListSpace.homes caused in
    let far : length homes ≤ c.in-Some.i = omega (arith, c.if-i-len.false, c.len.ensures, c.self.invariant.0.each_soft) in
    none_behind (g.S.ListSpace.sequences caused) homes c.in-Some.i (g.met.S.ListSpace.stands caused) (home_beyond homes c.in-Some.i far)
    ∙ ap (λ (o : Option ℕ). first (part_from o (joined (g.S.ListSpace.sequences caused)))) (sym c.in-Some.is)
    ∙ ap (λ (m : Interrupts). first (part_from c.args.after m.caused)) c.self.view_is
