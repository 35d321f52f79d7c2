-- The proof of `Kernel::jump_not_zero`: JumpNZ a l: goes on at l if a is not 0.
use Rattle.std.proofs.Common.{refl}
use Rattle.execsim.proofs.Calculating.{follows_jump_not_zero}
use Rattle.execsim.proofs.kernel.Kernel.jump_not_zero.Goals as goal

pub returns : goal.returns
returns g c = follows_jump_not_zero _ _ _ (rw (c.place_at_zero-place.ensures, c.number.ensures, c.number-2.ensures) refl) (c.jump_to.ensures)
