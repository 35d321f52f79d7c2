-- The proof of `Kernel::free_mem`: FreeMem addr size (autodoc exec.library/FreeMem).
use Rattle.std.proofs.Common.{sym, ◌∙◌}
use Rattle.execsim.proofs.Allocating.{free_refused, free_done}
use Rattle.execsim.proofs.kernel.Kernel.free_mem.Goals as goal

pub returns-then-free : goal.returns-then-free
returns-then-free g c = free_done _ _ (rw (c.number-address.ensures, c.number-size.ensures) at (sym c.free.ensures.answer ∙ c.if-free.true))
    (rw c.number-address.ensures at c.free.ensures.freed c.if-free.true) c.end_call.ensures

pub returns-else-free : goal.returns-else-free
returns-else-free g c = free_refused _ _ (rw (c.number-address.ensures, c.number-size.ensures) at (sym c.free.ensures.answer ∙ c.if-free.false))
    (rw (c.free.ensures.kept c.if-free.false) at c.alert.ensures)
