-- The proof of `Kernel::set_task_pri`: SetTaskPri task pri (autodoc exec.library/SetTaskPri).
use Rattle.execsim.proofs.Tasking.{pri_unknown, pri_outside, pri_set}
use Rattle.execsim.proofs.kernel.Kernel.set_task_pri.Goals as goal

pub returns-then-not-is_live_task : goal.returns-then-not-is_live_task
returns-then-not-is_live_task g c = pri_unknown _ _ (rw (c.is_live_task.ensures, c.number-other.ensures) at c.if-not-is_live_task.true) c.alert.ensures

pub returns-then-not-is_priority : goal.returns-then-not-is_priority
returns-then-not-is_priority g c = pri_outside _ _ (rw (c.is_live_task.ensures, c.number-other.ensures) at c.if-not-is_live_task.false)
    (rw (c.is_priority.ensures, c.number-pri.ensures) at c.if-not-is_priority.true) c.alert-then-not-is_priority.ensures

pub returns-else-not-is_priority : goal.returns-else-not-is_priority
returns-else-not-is_priority g c = pri_set _ _ _ (rw (c.is_live_task.ensures, c.number-other.ensures) at c.if-not-is_live_task.false)
    (rw (c.is_priority.ensures, c.number-pri.ensures) at c.if-not-is_priority.false)
    (rw c.number-other.ensures at c.set_pri-old.ensures.answer)
    (rw (c.number-other.ensures, c.number-pri.ensures) at c.set_pri-old.ensures.next) c.set_pri-old.ensures.ready c.answer.ensures
