-- The proof of `Kernel::free_signal`: FreeSignal a (autodoc exec.library/FreeSignal).
use Rattle.execsim.proofs.Signalling.{free_none, free_other, free_own}
use Rattle.execsim.proofs.kernel.Kernel.free_signal.Goals as goal

pub returns-then-is_no_signal : goal.returns-then-is_no_signal
returns-then-is_no_signal g c = free_none _ _ (rw (c.is_no_signal.ensures, c.number-n.ensures) at c.if-is_no_signal.true) c.end_call.ensures

pub returns-then-not-is_own_signal : goal.returns-then-not-is_own_signal
returns-then-not-is_own_signal g c = free_other _ _ (rw (c.is_no_signal.ensures, c.number-n.ensures) at c.if-is_no_signal.false)
    (rw (c.is_own_signal.ensures, c.number-n.ensures) at c.if-not-is_own_signal.true) c.alert.ensures

pub returns-else-not-is_own_signal : goal.returns-else-not-is_own_signal
returns-else-not-is_own_signal g c = free_own _ _ (rw (c.is_no_signal.ensures, c.number-n.ensures) at c.if-is_no_signal.false)
    (rw (c.is_own_signal.ensures, c.number-n.ensures) at c.if-not-is_own_signal.false)
    (rw c.number-n.ensures at c.deallocate_signal.ensures) c.end_call-else-not-is_own_signal.ensures
