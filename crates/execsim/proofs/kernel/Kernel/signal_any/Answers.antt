-- The proof of `Kernel::signal_any`: a task, if there is one of that number and it is live, receives the signals.
use Rattle.std.proofs.Common.{◌≤◌, length, ap, sym, arith}
use Rattle.execsim.proofs.PortOrder.{signalled_past}
use Rattle.execsim.proofs.kernel.Kernel.signal_any.Goals as goal

pub returns-else-task-len : goal.returns-else-task-len
returns-else-task-len g c =
    let past : length c.args.self.now.schedule.queue.states ≤ c.args.task = rw (← c.self.view_is) (omega (arith, c.if-task-len.false, c.len.ensures, c.self.invariant)) in
    ap (λ schedule. record c.args.self.now { schedule = schedule }) (sym (signalled_past c.args.task c.args.mask c.args.self.now.schedule past))
