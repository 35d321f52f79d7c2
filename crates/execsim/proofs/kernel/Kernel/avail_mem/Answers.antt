-- The proof of `Kernel::avail_mem`: AvailMem reqs (autodoc exec.library/AvailMem).
use Rattle.execsim.proofs.Allocating.{avail_refused, avail_answered}
use Rattle.execsim.proofs.kernel.Kernel.avail_mem.Goals as goal

pub returns-then-not-can_be_asked : goal.returns-then-not-can_be_asked
returns-then-not-can_be_asked g c = avail_refused _ _ (rw (c.can_be_asked.ensures, c.number-reqs.ensures) at c.if-not-can_be_asked.true) c.alert.ensures

pub returns-else-not-can_be_asked : goal.returns-else-not-can_be_asked
returns-else-not-can_be_asked g c = avail_answered _ _ _ (rw (c.can_be_asked.ensures, c.number-reqs.ensures) at c.if-not-can_be_asked.false)
    (rw c.number-reqs.ensures at c.available-answer.ensures) c.answer.ensures
