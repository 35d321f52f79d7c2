-- The proof of `Kernel::add_task`: AddTask task (autodoc exec.library/AddTask).
use Rattle.execsim.proofs.Tasking.{add_unknown, add_tried}
use Rattle.execsim.proofs.kernel.Kernel.add_task.Goals as goal

pub returns-then-not-is_task : goal.returns-then-not-is_task
returns-then-not-is_task g c = add_unknown _ _ (rw (c.is_task.ensures, c.number-other.ensures) at c.if-not-is_task.true) c.alert.ensures

pub returns-else-not-is_task : goal.returns-else-not-is_task
returns-else-not-is_task g c = add_tried _ _ _ (rw (c.is_task.ensures, c.number-other.ensures) at c.if-not-is_task.false)
    (rw (c.add-begins.ensures.answer, c.number-other.ensures) at c.begun.ensures) (rw c.number-other.ensures at c.add-begins.ensures.next) c.answer.ensures
