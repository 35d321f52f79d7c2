-- The proof of `Kernel::rem_task`: RemTask task (autodoc exec.library/RemTask).
use Rattle.execsim.proofs.Tasking.{rem_caller, rem_unknown, rem_other}
use Rattle.execsim.proofs.kernel.Kernel.rem_task.Goals as goal

pub returns-then-is_caller : goal.returns-then-is_caller
returns-then-is_caller g c = rem_caller _ _ (rw (c.is_caller.ensures, c.number-other.ensures) at c.if-is_caller.true) c.leave.ensures c.end_call.ensures

pub returns-then-not-is_live_task : goal.returns-then-not-is_live_task
returns-then-not-is_live_task g c = rem_unknown _ _ (rw (c.is_caller.ensures, c.number-other.ensures) at c.if-is_caller.false)
    (rw (c.is_live_task.ensures, c.number-other.ensures) at c.if-not-is_live_task.true) c.alert.ensures

pub returns-else-not-is_live_task : goal.returns-else-not-is_live_task
returns-else-not-is_live_task g c = rem_other _ _ (rw (c.is_caller.ensures, c.number-other.ensures) at c.if-is_caller.false)
    (rw (c.is_live_task.ensures, c.number-other.ensures) at c.if-not-is_live_task.false)
    (rw c.number-other.ensures at c.remove_task.ensures) c.end_call-else-not-is_live_task.ensures
