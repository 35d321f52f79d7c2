-- The proof of `Kernel::tick_while_good`.
use Rattle.std.proofs.Common.{sym, ◌∙◌}
use Rattle.execsim.proofs.Following.{while_good, stays_behind}
use Rattle.execsim.proofs.kernel.Kernel.tick_while_good.Goals as goal

pub returns-then-is_good : goal.returns-then-is_good
returns-then-is_good g c = while_good (sym c.is_good.ensures ∙ c.if-is_good.true) c.tick.ensures

pub returns-else-is_good : goal.returns-else-is_good
returns-else-is_good g c = stays_behind _ (sym c.is_good.ensures ∙ c.if-is_good.false)
