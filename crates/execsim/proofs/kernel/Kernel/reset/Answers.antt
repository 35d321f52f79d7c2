-- The parts are those that are made of the file.
use Rattle.std.proofs.Common.{ap, refl, replicate}
use Rattle.execmodel.specs.State.{booted, shared_variables}
use Rattle.execsim.proofs.Booting.{boots}
use Rattle.execsim.proofs.kernel.Kernel.reset.Goals as goal

pub returns-clause-agrees : goal.returns-clause-agrees
unfolding booted
returns-clause-agrees g c = λ _. boots c.args.file.now c.tasks-tasks.result.now c.tasks-tasks.ensures.tasks
    (rw c.quantum.ensures.quantum at c.reset_sched.ensures.same)
    (ap (λ programs. record { programs = programs; shared = replicate shared_variables 0 }) (c.reset_programs.ensures.same c.if-not-reset_programs.false))
    (c.reset_heap.ensures.same c.if-not-reset_heap.false)
    (rw (c.softints.ensures.softints, c.servers.ensures.servers) at c.reset.ensures.same c.if-not-reset.false)
    (λ i. record { caused = (c.reset-2.ensures i).caused; latches = (c.reset-2.ensures i).latches })
    refl
