-- A semaphore is owned if it is by number.
use Rattle.std.proofs.Common.{ap, sym, ◌∙◌}
use Rattle.sigsem.specs.Semaphores.{Semaphores, is_owned, sem_at}
use Rattle.execheap.specs.Numbered.{shown_heap}
use Rattle.execheap.proofs.{Passed.passed_on, SemaphoreAlerts.free_found, SemaphoreAlerts.free_refused}
use Rattle.execheap.proofs.objects.Objects.semaphore_to_free.Goals as goal

pub returns-in_err-n-clause-alert : goal.returns-in_err-n-clause-alert
returns-in_err-n-clause-alert g c = passed_on c.from_residual.result c.in_err-n.field-0.0 c.from_residual.ensures.1 ∙ sym (free_refused c.args.semaphore (shown_heap c.args.self.now) (sym c.in_err-n.ensures.alert))

pub returns-then-owned-clause-alert : goal.returns-then-owned-clause-alert
returns-then-owned-clause-alert g c =
    sym (free_found c.in_ok-n.ensures.known.sound c.in_ok-n.n c.args.semaphore c.in_ok-n.ensures.found
    (ap (λ (m : Semaphores). is_owned (sem_at c.in_ok-n.n m)) (sym c.sems.ensures) ∙ sym c.is_owned-owned.ensures ∙ c.if-owned.true))

pub returns-else-owned-clause-alert : goal.returns-else-owned-clause-alert
returns-else-owned-clause-alert g c =
    sym (free_found c.in_ok-n.ensures.known.sound c.in_ok-n.n c.args.semaphore c.in_ok-n.ensures.found
    (ap (λ (m : Semaphores). is_owned (sem_at c.in_ok-n.n m)) (sym c.sems.ensures) ∙ sym c.is_owned-owned.ensures ∙ c.if-owned.false))
