-- What is caused goes after those of its priority, which are in one header; what is caused already stays.
use Rattle.std.proofs.Common.{rules, arith, ◌≡◌, ◌<◌, length, map, false, None, sym, ◌∙◌, ap, is_none, is_some}
use Rattle.std.proofs.lemmas.List.{length-map}
use Rattle.execlist.specs.{Order.first, Lists.home, Disciplines.pri_at}
use Rattle.softint.specs.{declared.interrupt.Soft.Soft, Interrupts.Interrupts, Interrupts.joined}
use Rattle.softint.proofs.Headers.{loose, present, arrival, arrival_held, first_arrived, caused_more, caused_still}
use Rattle.softint.proofs.ints.Ints.cause.Goals as goal

pub invariant_of-self : goal.invariant_of-self
invariant_of-self g c =
    let caused = c.self.inside.caused in
    let same = ap (λ (m : Interrupts). pri_at m.priorities c.args.i) c.self.view_is ∙ sym c.header-h.ensures.same in
    let arrived = arrival (g.S.ListSpace.sequences caused) (g.S.ListSpace.homes caused) c.self.inside.softs.items c.args.i c.header-h.result
    c.self.invariant.0 (g.met.S.ListSpace.stands caused) c.header-h.ensures.within same in
    let count : length c.args.self.now.priorities ≡ length c.self.inside.softs.items =
    ap (λ (m : Interrupts). length m.priorities) (sym c.self.view_is) ∙ length-map c.self.inside.softs.items (λ (s : Soft). s.pri) in
    let within : c.args.i < length (g.S.ListSpace.homes caused) = omega (arith, c.requires, count, c.self.invariant.0.each_soft) in (
      arrival_held (g.S.ListSpace.sequences caused) _ (g.S.ListSpace.homes caused) _ c.self.inside.softs.items c.args.i c.header-h.result c.self.invariant.0 within same c.add_tail.ensures.placed c.add_tail.ensures.homes,
      c.self.invariant.1,
      sym (ap (λ xs. is_some (first xs)) (ap joined c.add_tail.ensures.placed ∙ arrived) ∙ first_arrived (pri_at (map (λ (s : Soft). s.pri) c.self.inside.softs.items)) (joined (g.S.ListSpace.sequences caused)) c.args.i),
    )

pub returns-then-is_none : goal.returns-then-is_none
returns-then-is_none g c =
    let caused = c.self.inside.caused in
    let softs = c.self.inside.softs.items in
    let all = g.S.ListSpace.sequences caused in
    let homes = g.S.ListSpace.homes caused in
    let none : home homes c.args.i ≡ None = search rules in
    let same = ap (λ (m : Interrupts). pri_at m.priorities c.args.i) c.self.view_is ∙ sym c.header-h.ensures.same in
    caused_more c.self.view_is c.args.i _ (loose all homes c.args.i (g.met.S.ListSpace.stands caused) none)
    (ap joined c.add_tail.ensures.placed ∙ arrival all homes softs c.args.i c.header-h.result c.self.invariant.0 (g.met.S.ListSpace.stands caused) c.header-h.ensures.within same)

pub returns-else-is_none : goal.returns-else-is_none
returns-else-is_none g c =
    let caused = c.self.inside.caused in
    let some : is_none (home (g.S.ListSpace.homes caused) c.args.i) ≡ false = search rules in
    caused_still c.self.view_is c.args.i
    (present (g.S.ListSpace.sequences caused) (g.S.ListSpace.homes caused) c.args.i (λ k t. g.met.S.ListSpace.stands caused k t) some)
