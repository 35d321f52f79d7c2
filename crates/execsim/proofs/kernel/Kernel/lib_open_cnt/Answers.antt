-- The proof of `Kernel::lib_open_cnt`: LibOpenCnt base: answers how often the library is open.
use Rattle.execmodel.specs.Libraries.{count_of, does_lib_open_cnt, library_alert}
use Rattle.execsim.proofs.Listing.{heap_read}
use Rattle.execsim.proofs.kernel.Kernel.lib_open_cnt.Goals as goal

pub returns : goal.returns
unfolding does_lib_open_cnt
returns g c = rw (← c.self.view_is) (heap_read _ _ (library_alert _) (count_of _) _
    (rw c.number-base.ensures at c.library_count-tried.ensures.alert) (rw c.number-base.ensures at c.library_count-tried.ensures.answer)
    (rw (← c.self.view_is) at c.conclude_with.ensures))
