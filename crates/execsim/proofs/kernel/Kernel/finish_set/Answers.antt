-- The proof of `Kernel::finish_set`: what follows a call on requests: if it set system time, all requests finish that
-- wait for system time and whose time has come.
use Rattle.std.proofs.Common.{sym, ◌∙◌}
use Rattle.execsim.proofs.Requesting.{not_set, set_finishes}
use Rattle.execsim.proofs.kernel.Kernel.finish_set.Goals as goal

pub returns-then-take_setting : goal.returns-then-take_setting
returns-then-take_setting g c =
    set_finishes c.take_setting.ensures.next (sym c.take_setting.ensures.answer ∙ c.if-take_setting.true) c.finish_all_until.ensures

pub returns-else-take_setting : goal.returns-else-take_setting
returns-else-take_setting g c = not_set c.take_setting.ensures.next _ (sym c.take_setting.ensures.answer ∙ c.if-take_setting.false)
