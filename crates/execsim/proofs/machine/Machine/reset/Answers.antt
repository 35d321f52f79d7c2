-- It shows the first state, if it has not failed.
use Rattle.std.proofs.Common.{◌≡◌, Bool, true, false, not, refl}
use Rattle.execmodel.specs.State.{booted}
use Rattle.execsim.specs.Reached.{at_boot}
use Rattle.execsim.proofs.Advancing.{not_known}
use Rattle.execsim.proofs.machine.Machine.reset.Goals as goal

is_reset : (b : Bool) → not b ≡ false → b ≡ true
is_reset true going = refl
is_reset false going = let bad : true ≡ false = going in cc

pub invariant_of-self : goal.invariant_of-self
invariant_of-self g c = (
  λ going. record {
    state = booted c.args.file.now;
    agrees = c.reset-is_reset.ensures.agrees (is_reset c.reset-is_reset.result going);
    reached = at_boot c.args.file.now c.reset-is_reset.ensures.machine;
  },
  not_known,
)
