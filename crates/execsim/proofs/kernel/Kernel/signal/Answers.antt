-- The proof of `Kernel::signal`: signal t mask: the task of that number receives the signals of the mask.
use Rattle.execsim.proofs.Signalling.{signal_unknown, signal_unmasked, signal_sent}
use Rattle.execsim.proofs.kernel.Kernel.signal.Goals as goal

pub returns-then-not-is_task : goal.returns-then-not-is_task
returns-then-not-is_task g c = signal_unknown _ _ (rw (c.is_task.ensures, c.number-other.ensures) at c.if-not-is_task.true) c.alert_by.ensures

pub returns-then-not-is_mask : goal.returns-then-not-is_mask
returns-then-not-is_mask g c = signal_unmasked _ _ (rw (c.is_task.ensures, c.number-other.ensures) at c.if-not-is_task.false)
    (rw (c.is_mask.ensures, c.number-mask.ensures) at c.if-not-is_mask.true) c.alert_by-then-not-is_mask.ensures

pub returns-else-not-is_mask : goal.returns-else-not-is_mask
returns-else-not-is_mask g c = signal_sent _ _ (rw (c.is_task.ensures, c.number-other.ensures) at c.if-not-is_task.false)
    (rw (c.is_mask.ensures, c.number-mask.ensures) at c.if-not-is_mask.false)
    (rw (c.number-other.ensures, c.number-mask.ensures) at c.signal_task.ensures) c.end_call_by.ensures
