-- The proof of `Kernel::cause_by_task`: cause name, of task t.
use Rattle.std.proofs.Common.{refl}
use Rattle.execsim.specs.Views.{call_view}
use Rattle.execsim.proofs.Caused.{caused_by_task}
use Rattle.execsim.proofs.kernel.Kernel.cause_by_task.Goals as goal

pub returns : goal.returns
returns g c = caused_by_task c.args.t (call_view c.args.call.now) _ c.args.call.now.quoted.bytes _
    (c.is_cause.ensures c.if-not-is_cause.false) (c.quotes_alone.ensures c.if-not-quotes_alone.false)
    c.softint_named-i.ensures c.cause.ensures refl c.tell.ensures c.go_on.ensures
