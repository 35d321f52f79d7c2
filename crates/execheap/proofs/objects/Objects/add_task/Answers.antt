-- One more task may wait at semaphores, or the objects are as they were.
use Rattle.std.proofs.Common.{◌∙◌, length, ap, sym, arith}
use Rattle.execheap.specs.{NewTask.with_one_more_task, Numbered.Numbered}
use Rattle.execheap.proofs.NewTask.{added_objects, each_queue, kept_same}
use Rattle.execheap.proofs.objects.Objects.add_task.Goals as goal

pub add_task-requires-clause-sems : goal.add_task-requires-clause-sems
add_task-requires-clause-sems g c =
    c.pool-pool.ensures ∙ ap (λ (s : Numbered). s.table.pool) c.self.view_is ∙ sym (each_queue c.facts.ensures)
    ∙ sym (ap (λ (s : Numbered). length s.sems.queues) c.self.view_is)

pub add_task-requires-clause-tasks : goal.add_task-requires-clause-tasks
add_task-requires-clause-tasks g c = sym c.self.invariant.apt.each_task

pub add_task-requires-clause-few_sems : goal.add_task-requires-clause-few_sems
add_task-requires-clause-few_sems g c =
    omega (arith, c.pool-pool.ensures, ap (λ (s : Numbered). s.table.pool) c.self.view_is, c.facts.ensures.sound.table.small)

pub invariant_of-self : goal.invariant_of-self
invariant_of-self g c = kept_same c.add_task.new.self c.self.invariant c.in_err-add_task.ensures.kept

pub returns-clause-added : goal.returns-clause-added
returns-clause-added g c = added_objects _ c.add_task.new.self c.in_ok-add_task.ensures.added ∙ ap with_one_more_task c.self.view_is
