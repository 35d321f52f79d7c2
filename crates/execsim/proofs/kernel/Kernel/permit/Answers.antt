-- The proof of `Kernel::permit`: permit (autodoc exec.library/Permit).
use Rattle.forbid.specs.Nesting.{after_permit}
use Rattle.execmodel.specs.Nesting.{does_permit}
use Rattle.execsim.proofs.Forbidding.{counts}
use Rattle.execsim.proofs.kernel.Kernel.permit.Goals as goal

pub returns : goal.returns
unfolding does_permit
returns g c = counts _ _ after_permit _ c.count_permit-fits.ensures.answer c.count_permit-fits.ensures.next c.counted.ensures
