-- The task has the semaphore that is shown, or waits there.
use Rattle.std.proofs.Common.{◌≡◌, ap, sym, subst, ◌∙◌, IfOk, OnOk}
use Rattle.execmodel.specs.{State.Memory, State.on_heap, Semaphores.obtain_alert, Semaphores.obtained, Semaphores.sem_of, Semaphores.waiters_of}
use Rattle.execlist.specs.{Lists.times, Answers.fault_or}
use Rattle.sigsem.specs.Semaphores as sems
use Rattle.sigsem.specs.Semaphores.{Semaphores, deep_fault, outcome_for}
use Rattle.execheap.specs.{Refusals.alert_of, Refusals.as_refusal, Numbered.shown_heap, Numbered.shown_memory}
use Rattle.execheap.proofs.SemaphoreAlerts.{obtain_refused, obtain_told, sem_of_shown, told_answer, told_next}
use Rattle.execheap.proofs.{Dropping.obtained_shown, Dropping.waits_at_none, Passed.passed_on}
use Rattle.execheap.proofs.heap.Heap.obtain_semaphore.Goals as goal

pub returns-in_err-n-clause-alert : goal.returns-in_err-n-clause-alert
returns-in_err-n-clause-alert g c =
    passed_on c.from_residual.result c.in_err-n.field-0.0 c.from_residual.ensures.1
    ∙ sym (obtain_refused c.args.semaphore (shown_heap c.self.inside.objects) (sym c.in_err-n.ensures.alert) c.args.task)
    ∙ ap (λ (m : Memory). obtain_alert c.args.task c.args.semaphore m.heap) c.self.view_is

-- a task that is in no queue that is shown waits at none
pub obtain-requires-clause-stopped : goal.obtain-requires-clause-stopped
obtain-requires-clause-stopped g c =
    waits_at_none c.in_ok-n.ensures.known.sound c.in_ok-n.ensures.known.sems c.args.task
    (λ a. ap (λ (m : Memory). times c.args.task (waiters_of a m.heap)) c.self.view_is ∙ c.requires.stopped a)

-- any refusal by number is reported as one
refusal_told : (g : _) (c : goal.After-as_refusal g) → c.as_refusal.result
    ≡ as_refusal (fault_or (deep_fault c.in_ok-n.n c.args.task c.self.inside.objects.sems) (outcome_for c.args.task (sems.sem_at c.in_ok-n.n c.self.inside.objects.sems)))
refusal_told g c = c.as_refusal.ensures ∙ ap as_refusal c.obtain.ensures.answer

pub returns-clause-alert : goal.returns-clause-alert
returns-clause-alert g c =
    let s = c.self.inside.objects in
    ap alert_of (refusal_told g c)
    ∙ obtain_told c.in_ok-n.ensures.known.sound c.in_ok-n.n c.args.semaphore c.in_ok-n.ensures.found c.args.task (outcome_for c.args.task (sems.sem_at c.in_ok-n.n s.sems))
    ∙ ap (λ (m : Memory). obtain_alert c.args.task c.args.semaphore m.heap) c.self.view_is

pub returns-clause-answer : goal.returns-clause-answer
returns-clause-answer g c =
    let s = c.self.inside.objects in
    let asked = outcome_for c.args.task (sem_of c.args.semaphore c.args.self.now.heap) in
    subst (λ r. IfOk r (λ how. how ≡ asked)) (sym (refusal_told g c))
    (told_answer (deep_fault c.in_ok-n.n c.args.task s.sems) (outcome_for c.args.task (sems.sem_at c.in_ok-n.n s.sems)) asked
    (ap (outcome_for c.args.task) (sym (sem_of_shown c.in_ok-n.ensures.known.sound c.in_ok-n.n c.args.semaphore c.in_ok-n.ensures.found))
    ∙ ap (λ (m : Memory). outcome_for c.args.task (sem_of c.args.semaphore m.heap)) c.self.view_is))

pub returns-clause-next : goal.returns-clause-next
returns-clause-next g c =
    let f = c.in_ok-n.ensures.known in
    let s = c.self.inside.objects in
    let e = c.in_ok-n.ensures in
    subst (λ r. OnOk r (shown_memory c.obtain.new.self ≡ on_heap (obtained c.args.semaphore c.args.task) c.args.self.now))
    (sym (refusal_told g c))
    (told_next (deep_fault c.in_ok-n.n c.args.task s.sems) (outcome_for c.args.task (sems.sem_at c.in_ok-n.n s.sems)) s.sems (sems.obtained c.in_ok-n.n c.args.task s.sems)
    (λ done. ap shown_memory c.obtain.ensures.next ∙ ap (λ (m : Semaphores). shown_memory (record s { sems = m })) done
    ∙ obtained_shown f.sound f.sems f.memory c.in_ok-n.n c.args.semaphore e.found e.live c.args.task
    ∙ ap (on_heap (obtained c.args.semaphore c.args.task)) c.self.view_is))
