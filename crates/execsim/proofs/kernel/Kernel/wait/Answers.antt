-- The proof of `Kernel::wait`: wait mask (autodoc exec.library/Wait).
use Rattle.std.proofs.Common.{sym, ◌∙◌}
use Rattle.execsim.proofs.Signalling.{wait_unmasked, wait_tried}
use Rattle.execsim.proofs.kernel.Kernel.wait.Goals as goal

pub returns-then-not-is_mask : goal.returns-then-not-is_mask
returns-then-not-is_mask g c = wait_unmasked _ _ (rw (c.is_mask.ensures, c.number-mask.ensures) at c.if-not-is_mask.true) c.alert.ensures

pub returns-in-Some : goal.returns-in-Some
returns-in-Some g c = wait_tried _ _ _ (rw (c.is_mask.ensures, c.number-mask.ensures) at c.if-not-is_mask.false)
    (sym c.in-Some.is ∙ (rw c.number-mask.ensures at c.wait_for.ensures.answer)) (rw c.number-mask.ensures at c.wait_for.ensures.next) c.answer.ensures

pub returns-in-None : goal.returns-in-None
returns-in-None g c = wait_tried _ _ _ (rw (c.is_mask.ensures, c.number-mask.ensures) at c.if-not-is_mask.false)
    (sym c.in-None.is ∙ (rw c.number-mask.ensures at c.wait_for.ensures.answer)) (rw c.number-mask.ensures at c.wait_for.ensures.next) c.waiting.ensures
