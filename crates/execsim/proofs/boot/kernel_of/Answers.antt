-- The proof of `kernel_of`: the machine of a file before its start.
use Rattle.std.proofs.Common.{ap, ◌∙◌}
use Rattle.execmodel.specs.State.{booted}
use Rattle.execsim.specs.Agreement.{Seen}
use Rattle.execsim.proofs.Booting.{boots}
use Rattle.execsim.proofs.boot.kernel_of.Goals as goal

pub returns-clause-agrees : goal.returns-clause-agrees
unfolding booted
returns-clause-agrees g c = boots c.args.file.now c.tasks-tasks.result.now c.tasks-tasks.ensures.tasks
    (ap (λ (m : Seen). m.schedule) c.new.ensures ∙ (rw c.quantum.ensures.quantum at c.in_ok-sched.ensures.schedule))
    (ap (λ (m : Seen). m.scripts) c.new.ensures ∙ ap (λ programs. record { programs = programs; shared = _ }) c.in_ok-sched.ensures.programs)
    (ap (λ (m : Seen). m.memory) c.new.ensures ∙ c.in_ok-memory.ensures)
    (ap (λ (m : Seen). m.bodies) c.new.ensures ∙ c.in_ok-bodies.ensures.bodies)
    (ap (λ (m : Seen). m.pending) c.new.ensures ∙ (λ i. record { caused = c.in_ok-bodies.ensures.caused i; latches = c.in_ok-bodies.ensures.latches i }))
    (ap (λ (m : Seen). m.stopped) c.new.ensures)
