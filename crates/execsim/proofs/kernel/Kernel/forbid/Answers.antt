-- The proof of `Kernel::forbid`: forbid (autodoc exec.library/Forbid).
use Rattle.forbid.specs.Nesting.{after_forbid}
use Rattle.execmodel.specs.Nesting.{does_forbid}
use Rattle.execsim.proofs.Forbidding.{counts}
use Rattle.execsim.proofs.kernel.Kernel.forbid.Goals as goal

pub returns : goal.returns
unfolding does_forbid
returns g c = counts _ _ after_forbid _ c.count_forbid-fits.ensures.answer c.count_forbid-fits.ensures.next c.counted.ensures
