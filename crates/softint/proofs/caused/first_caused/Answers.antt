-- The headers before have nothing.
use Rattle.std.proofs.Common.{rules, ◌<◌, ◌∙◌, sym, arith}
use Rattle.softint.proofs.Headers.{first_of_some, none_found}
use Rattle.softint.proofs.caused.first_caused.Goals as goal

pub returns-then-is_some-clause-value : goal.returns-then-is_some-clause-value
returns-then-is_some-clause-value g c =
    first_of_some (g.S.ListSpace.sequences c.args.caused.now) c.loop-h.h c.first-i.result c.loop-h.invariant c.first-i.ensures.value (sym c.is_some.ensures ∙ c.if-is_some.true)

pub returns-clause-value : goal.returns-clause-value
returns-clause-value g c =
    sym (none_found (g.S.ListSpace.sequences c.args.caused.now) (λ k l. let few : k < 5 = omega (arith, l, c.requires) in c.loop-h.invariant k (search rules)))
