-- The proof of `Kernel::set_signal`: SetSignal new mask (autodoc exec.library/SetSignal).
use Rattle.execsim.proofs.Signalling.{set_unmasked, set_masked}
use Rattle.execsim.proofs.kernel.Kernel.set_signal.Goals as goal

pub returns-then-not-is_mask : goal.returns-then-not-is_mask
returns-then-not-is_mask g c = set_unmasked _ _ (rw (c.is_mask.ensures, c.number-mask.ensures) at c.if-not-is_mask.true) c.alert.ensures

pub returns-else-not-is_mask : goal.returns-else-not-is_mask
returns-else-not-is_mask g c = set_masked _ _ _ (rw (c.is_mask.ensures, c.number-mask.ensures) at c.if-not-is_mask.false) c.change_signals-received.ensures.answer
    (rw (c.number-new.ensures, c.number-mask.ensures) at c.change_signals-received.ensures.next) c.answer.ensures
