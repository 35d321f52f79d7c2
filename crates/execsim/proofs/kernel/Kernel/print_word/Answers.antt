-- The proof of `Kernel::print_word`: task t does what it does next, if that is a Print.
use Rattle.std.proofs.Common.{None}
use Rattle.execsim.proofs.Changing.{printed_as, tasks_after}
use Rattle.execsim.proofs.kernel.Kernel.print_word.Goals as goal

pub returns-in-Some-clause-follows : goal.returns-in-Some-clause-follows
returns-in-Some-clause-follows g c = λ done. printed_as c.args.t c.in-Some.next (rw c.in-Some.is at c.put_next_print.ensures.puts) c.go_on.ensures

pub returns-in-Some-clause-changes : goal.returns-in-Some-clause-changes
returns-in-Some-clause-changes g c =
    λ done. record { scripts = _; is = c.go_on.ensures; tasks = tasks_after c.args.t None 0 c.in-Some.next c.args.self.now.scripts }
