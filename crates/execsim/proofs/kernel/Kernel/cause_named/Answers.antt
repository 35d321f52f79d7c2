-- The proof of `Kernel::cause_named`: cause name: the software interrupt of that name is to run, after those of its
-- priority; one that is caused already stays where it is (autodoc exec.library/Cause).
use Rattle.execsim.proofs.Caused.{caused_done}
use Rattle.execsim.proofs.kernel.Kernel.cause_named.Goals as goal

pub returns : goal.returns
returns g c = caused_done _ _ _ c.softint_of_call-i.ensures c.cause.ensures c.end_call_by.ensures
