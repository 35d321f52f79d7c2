-- The headers before have nothing.
use Rattle.std.proofs.Common.{rules, ◌≡◌, suc, ◌+◌, ◌<◌, ap, drop, ◌∙◌, sym, arith}
use Rattle.execlist.specs.Order.{first}
use Rattle.softint.specs.Interrupts.{joined}
use Rattle.softint.proofs.Headers.{below_found, below_none}
use Rattle.softint.proofs.caused.first_below.Goals as goal

pub returns-then-is_some : goal.returns-then-is_some
returns-then-is_some g c =
    let all = g.S.ListSpace.sequences c.args.caused.now in
    let more : suc c.args.h ≡ c.args.h + 1 = omega arith in
    below_found all c.args.h c.loop-k.k c.first-i.result (omega arith) c.loop-k.invariant c.first-i.ensures.value (sym c.is_some.ensures ∙ c.if-is_some.true)
    ∙ ap (λ n. first (joined (drop n all))) more

pub returns : goal.returns
returns g c =
    let all = g.S.ListSpace.sequences c.args.caused.now in
    let more : suc c.args.h ≡ c.args.h + 1 = omega arith in
    below_none all c.args.h (λ j a b. let few : j < 5 = omega (arith, b, c.requires.few) in c.loop-k.invariant j a (search rules))
    ∙ ap (λ n. first (joined (drop n all))) more
