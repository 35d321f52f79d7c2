-- The semaphore that is shown is handed on, or its owner has to release it once less.
use Rattle.std.proofs.Common.{◌≡◌, ap, sym, subst, ◌∙◌, IfOk, OnOk}
use Rattle.execmodel.specs.{State.Memory, State.on_heap, Semaphores.heir, Semaphores.release_alert, Semaphores.released}
use Rattle.execlist.specs.Answers.{fault_or}
use Rattle.sigsem.specs.Semaphores as sems
use Rattle.sigsem.specs.Semaphores.{Semaphores, let_go, release_fault}
use Rattle.execheap.specs.{Refusals.alert_of, Refusals.as_refusal, Numbered.shown_heap, Numbered.shown_memory}
use Rattle.execheap.proofs.SemaphoreAlerts.{heir_shown, release_refused, release_told, told_answer, told_next}
use Rattle.execheap.proofs.{Dropping.released_shown, Passed.passed_on}
use Rattle.execheap.proofs.heap.Heap.release_semaphore.Goals as goal

pub returns-in_err-n-clause-alert : goal.returns-in_err-n-clause-alert
returns-in_err-n-clause-alert g c =
    passed_on c.from_residual.result c.in_err-n.field-0.0 c.from_residual.ensures.1
    ∙ sym (release_refused c.args.semaphore (shown_heap c.self.inside.objects) (sym c.in_err-n.ensures.alert) c.args.task)
    ∙ ap (λ (m : Memory). release_alert c.args.task c.args.semaphore m.heap) c.self.view_is

-- any refusal by number is reported as one
refusal_told : (g : _) (c : goal.After-as_refusal g) → c.as_refusal.result
    ≡ as_refusal (fault_or (release_fault c.in_ok-n.n c.args.task c.self.inside.objects.sems) (sems.heir c.in_ok-n.n c.self.inside.objects.sems))
refusal_told g c = c.as_refusal.ensures ∙ ap as_refusal c.release.ensures.answer

pub returns-clause-alert : goal.returns-clause-alert
returns-clause-alert g c =
    let s = c.self.inside.objects in
    ap alert_of (refusal_told g c)
    ∙ release_told c.in_ok-n.ensures.known.sound c.in_ok-n.n c.args.semaphore c.in_ok-n.ensures.found c.args.task (sems.heir c.in_ok-n.n s.sems)
    ∙ ap (λ (m : Memory). release_alert c.args.task c.args.semaphore m.heap) c.self.view_is

pub returns-clause-answer : goal.returns-clause-answer
returns-clause-answer g c =
    let s = c.self.inside.objects in
    let next = heir c.args.semaphore c.args.self.now.heap in
    subst (λ r. IfOk r (λ owner. owner ≡ next)) (sym (refusal_told g c))
    (told_answer (release_fault c.in_ok-n.n c.args.task s.sems) (sems.heir c.in_ok-n.n s.sems) next
    (sym (heir_shown c.in_ok-n.ensures.known.sound c.in_ok-n.n c.args.semaphore c.in_ok-n.ensures.found)
    ∙ ap (λ (m : Memory). heir c.args.semaphore m.heap) c.self.view_is))

pub returns-clause-next : goal.returns-clause-next
returns-clause-next g c =
    let f = c.in_ok-n.ensures.known in
    let s = c.self.inside.objects in
    let e = c.in_ok-n.ensures in
    subst (λ r. OnOk r (shown_memory c.release.new.self ≡ on_heap (released c.args.semaphore) c.args.self.now))
    (sym (refusal_told g c))
    (told_next (release_fault c.in_ok-n.n c.args.task s.sems) (sems.heir c.in_ok-n.n s.sems) s.sems (let_go c.in_ok-n.n s.sems)
    (λ done. ap shown_memory c.release.ensures.next ∙ ap (λ (m : Semaphores). shown_memory (record s { sems = m })) done
    ∙ released_shown f.sound f.sems f.memory c.in_ok-n.n c.args.semaphore e.found e.live
    ∙ ap (on_heap (released c.args.semaphore)) c.self.view_is))
