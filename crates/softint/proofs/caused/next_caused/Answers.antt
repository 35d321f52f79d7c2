-- What comes after one is in its header, or else in one below.
use Rattle.std.proofs.Common.{◌≡◌, suc, ◌+◌, None, Some, ap, drop, sym, ◌∙◌, arith}
use Rattle.execlist.specs.Order.{first}
use Rattle.softint.specs.Interrupts.{joined}
use Rattle.softint.proofs.Headers.{next_behind, none_behind}
use Rattle.softint.proofs.caused.next_caused.Goals as goal

pub returns-in-None : goal.returns-in-None
returns-in-None g c =
    let caused = c.args.caused.now in
    none_behind (g.S.ListSpace.sequences caused) (g.S.ListSpace.homes caused) c.args.i (g.met.S.ListSpace.stands caused) (sym c.home.ensures.value ∙ c.in-None.is)

pub returns-in-None-succ : goal.returns-in-None-succ
returns-in-None-succ g c =
    let caused = c.args.caused.now in
    let all = g.S.ListSpace.sequences caused in
    let own = sym c.home.ensures.value ∙ c.in-Some.is in
    let more : c.in-Some.h + 1 ≡ suc c.in-Some.h = omega arith in
    c.first_below.ensures ∙ ap (λ n. first (joined (drop n all))) more
    ∙ sym (next_behind all (g.S.ListSpace.homes caused) c.args.i c.in-Some.h None (g.met.S.ListSpace.stands caused) own
    (sym c.in-None-succ.is ∙ c.succ.ensures.value c.in-Some.h own))

pub returns-in-Some-succ : goal.returns-in-Some-succ
returns-in-Some-succ g c =
    let caused = c.args.caused.now in
    let all = g.S.ListSpace.sequences caused in
    let own = sym c.home.ensures.value ∙ c.in-Some.is in
    sym (next_behind all (g.S.ListSpace.homes caused) c.args.i c.in-Some.h (Some c.in-Some-succ.next) (g.met.S.ListSpace.stands caused) own
    (sym c.in-Some-succ.is ∙ c.succ.ensures.value c.in-Some.h own))
