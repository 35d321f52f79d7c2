-- The proof of `Kernel::some_steps_while_good`: some steps, as long as one listens.
use Rattle.std.proofs.Common.{sym, ◌∙◌}
use Rattle.execsim.proofs.Following.{while_good, stays_behind}
use Rattle.execsim.proofs.kernel.Kernel.some_steps_while_good.Goals as goal

pub returns-then-is_good-clause-follows : goal.returns-then-is_good-clause-follows
returns-then-is_good-clause-follows g c = while_good (sym c.is_good.ensures ∙ c.if-is_good.true) c.some_steps.ensures.follows

pub returns-else-is_good-clause-follows : goal.returns-else-is_good-clause-follows
returns-else-is_good-clause-follows g c = stays_behind _ (sym c.is_good.ensures ∙ c.if-is_good.false)

pub some_steps-requires-clause-agree : goal.some_steps-requires-clause-agree
some_steps-requires-clause-agree g c = c.requires.agree (sym c.is_good.ensures ∙ c.if-is_good.true)
