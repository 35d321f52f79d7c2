-- The proof of `Kernel::alloc_mem`: AllocMem size reqs: answers the address of a plain block, or 0 if none fits, even
-- after libraries were asked for memory, or the size is 0.
use Rattle.execsim.proofs.Allocating.{alloc_refused, alloc_tried}
use Rattle.execsim.proofs.kernel.Kernel.alloc_mem.Goals as goal

pub returns-then-not-has_only : goal.returns-then-not-has_only
returns-then-not-has_only g c = alloc_refused _ _ (rw (c.has_only.ensures, c.number-reqs.ensures) at c.if-not-has_only.true) c.alert.ensures

pub returns-else-not-has_only : goal.returns-else-not-has_only
returns-else-not-has_only g c = alloc_tried _ _ _ (rw (c.has_only.ensures, c.number-reqs.ensures) at c.if-not-has_only.false)
    (rw (c.number-size.ensures, c.number-reqs.ensures) at c.allocate-place.ensures.answer)
    (rw (c.number-size.ensures, c.number-reqs.ensures) at c.allocate-place.ensures.next) (rw (c.unwrap_or.ensures) at c.answer.ensures)
