-- The proof of `Kernel::enable`: enable (autodoc exec.library/Enable).
use Rattle.forbid.specs.Nesting.{after_enable}
use Rattle.execmodel.specs.Nesting.{does_enable}
use Rattle.execsim.proofs.Forbidding.{counts}
use Rattle.execsim.proofs.kernel.Kernel.enable.Goals as goal

pub returns : goal.returns
unfolding does_enable
returns g c = counts _ _ after_enable _ c.count_enable-fits.ensures.answer c.count_enable-fits.ensures.next c.counted.ensures
