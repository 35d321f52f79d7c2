-- The proof of `Kernel::give_back`: a signal of a task, if there is a task of that number, is not allocated any more.
use Rattle.std.proofs.Common.{◌≤◌, length, ap, sym, arith}
use Rattle.execsim.proofs.PortOrder.{frees_past}
use Rattle.execsim.proofs.kernel.Kernel.give_back.Goals as goal

pub returns-else-task-len : goal.returns-else-task-len
returns-else-task-len g c =
    let past : length c.args.self.now.schedule.queue.states ≤ c.args.task =
    rw (← c.self.view_is) (omega (arith, c.if-task-len.false, c.len.ensures, c.self.invariant)) in
    ap (λ schedule. record c.args.self.now { schedule = schedule }) (sym (frees_past c.args.task c.args.n c.args.self.now.schedule past))
