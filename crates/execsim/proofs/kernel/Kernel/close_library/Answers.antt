-- The proof of `Kernel::close_library`: CloseLibrary base: the library is open one time less, and is freed if it is to
-- be expunged and is no longer open; 0 does nothing.
use Rattle.execsim.proofs.Opening.{close_none, close_tried}
use Rattle.execsim.proofs.kernel.Kernel.close_library.Goals as goal

pub returns-then-base-eq0 : goal.returns-then-base-eq0
returns-then-base-eq0 g c = close_none _ _ (rw c.number-base.ensures at c.if-base-eq0.true) c.end_call.ensures

pub returns-else-base-eq0 : goal.returns-else-base-eq0
returns-else-base-eq0 g c = rw (← c.self.view_is) (close_tried _ _ _ _ (rw c.number-base.ensures at c.if-base-eq0.false)
    (rw c.number-base.ensures at c.close_library-tried.ensures.alert)
    (rw c.number-base.ensures at c.close_library-tried.ensures.next) c.close_library-tried.ensures.kept c.conclude.ensures)
