-- The task has the semaphore that is shown, or nothing changes.
use Rattle.std.proofs.Common.{◌≡◌, ap, sym, subst, ◌∙◌, IfOk, OnOk}
use Rattle.execmodel.specs.{State.Memory, State.on_heap, Semaphores.obtain_alert, Semaphores.attempted, Semaphores.sem_of}
use Rattle.execlist.specs.Answers.{fault_or}
use Rattle.sigsem.specs.Semaphores as sems
use Rattle.sigsem.specs.Semaphores.{Semaphores, deep_fault, is_free_for}
use Rattle.execheap.specs.{Refusals.alert_of, Refusals.as_refusal, Numbered.shown_heap, Numbered.shown_memory}
use Rattle.execheap.proofs.SemaphoreAlerts.{obtain_refused, obtain_told, sem_of_shown, told_answer, told_next}
use Rattle.execheap.proofs.{Dropping.attempted_shown, Passed.passed_on}
use Rattle.execheap.proofs.heap.Heap.attempt_semaphore.Goals as goal

pub returns-in_err-n-clause-alert : goal.returns-in_err-n-clause-alert
returns-in_err-n-clause-alert g c =
    passed_on c.from_residual.result c.in_err-n.field-0.0 c.from_residual.ensures.1
    ∙ sym (obtain_refused c.args.semaphore (shown_heap c.self.inside.objects) (sym c.in_err-n.ensures.alert) c.args.task)
    ∙ ap (λ (m : Memory). obtain_alert c.args.task c.args.semaphore m.heap) c.self.view_is

-- any refusal by number is reported as one
refusal_told : (g : _) (c : goal.After-as_refusal g) → c.as_refusal.result
    ≡ as_refusal (fault_or (deep_fault c.in_ok-n.n c.args.task c.self.inside.objects.sems) (is_free_for c.args.task (sems.sem_at c.in_ok-n.n c.self.inside.objects.sems)))
refusal_told g c = c.as_refusal.ensures ∙ ap as_refusal c.attempt.ensures.answer

pub returns-clause-alert : goal.returns-clause-alert
returns-clause-alert g c =
    let s = c.self.inside.objects in
    ap alert_of (refusal_told g c)
    ∙ obtain_told c.in_ok-n.ensures.known.sound c.in_ok-n.n c.args.semaphore c.in_ok-n.ensures.found c.args.task (is_free_for c.args.task (sems.sem_at c.in_ok-n.n s.sems))
    ∙ ap (λ (m : Memory). obtain_alert c.args.task c.args.semaphore m.heap) c.self.view_is

pub returns-clause-answer : goal.returns-clause-answer
returns-clause-answer g c =
    let s = c.self.inside.objects in
    let asked = is_free_for c.args.task (sem_of c.args.semaphore c.args.self.now.heap) in
    subst (λ r. IfOk r (λ has. has ≡ asked)) (sym (refusal_told g c))
    (told_answer (deep_fault c.in_ok-n.n c.args.task s.sems) (is_free_for c.args.task (sems.sem_at c.in_ok-n.n s.sems)) asked
    (ap (is_free_for c.args.task) (sym (sem_of_shown c.in_ok-n.ensures.known.sound c.in_ok-n.n c.args.semaphore c.in_ok-n.ensures.found))
    ∙ ap (λ (m : Memory). is_free_for c.args.task (sem_of c.args.semaphore m.heap)) c.self.view_is))

pub returns-clause-next : goal.returns-clause-next
returns-clause-next g c =
    let f = c.in_ok-n.ensures.known in
    let s = c.self.inside.objects in
    let e = c.in_ok-n.ensures in
    subst (λ r. OnOk r (shown_memory c.attempt.new.self ≡ on_heap (attempted c.args.semaphore c.args.task) c.args.self.now))
    (sym (refusal_told g c))
    (told_next (deep_fault c.in_ok-n.n c.args.task s.sems) (is_free_for c.args.task (sems.sem_at c.in_ok-n.n s.sems)) s.sems (sems.attempted c.in_ok-n.n c.args.task s.sems)
    (λ done. ap shown_memory c.attempt.ensures.next ∙ ap (λ (m : Semaphores). shown_memory (record s { sems = m })) done
    ∙ attempted_shown f.sound f.sems f.memory c.in_ok-n.n c.args.semaphore e.found e.live c.args.task
    ∙ ap (on_heap (attempted c.args.semaphore c.args.task)) c.self.view_is))
