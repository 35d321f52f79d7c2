-- The proof of `Kernel::disable`: disable (autodoc exec.library/Disable).
use Rattle.forbid.specs.Nesting.{after_disable}
use Rattle.execmodel.specs.Nesting.{does_disable}
use Rattle.execsim.proofs.Forbidding.{counts}
use Rattle.execsim.proofs.kernel.Kernel.disable.Goals as goal

pub returns : goal.returns
unfolding does_disable
returns g c = counts _ _ after_disable _ c.count_disable-fits.ensures.answer c.count_disable-fits.ensures.next c.counted.ensures
