-- (until it has failed it shows the first state)
use Rattle.execmodel.specs.State.{booted}
use Rattle.execsim.specs.Reached.{at_boot}
use Rattle.execsim.proofs.Advancing.{not_known}
use Rattle.execsim.proofs.machine.Machine.boot.Goals as goal

pub invariant_of-result : goal.invariant_of-result
invariant_of-result g c =
    (λ _. record { state = booted c.args.file.now; agrees = c.in_ok-kernel.ensures.agrees; reached = at_boot c.args.file.now c.in_ok-kernel.ensures.machine }, not_known)
