-- There is room for one more task, which waits nowhere; the queues are as they were.
use Rattle.std.proofs.Common.{◌≡◌, ◌+◌, ◌∙◌, length, refl, ap, sym, subst, arith, None}
use Rattle.std.proofs.lemmas.List.{length-replicate}
use Rattle.sigsem.specs.{NewTask.with_new_task, Semaphores.Semaphores, Semaphores.KeepsSemaphores}
use Rattle.sigsem.proofs.NewTask.{copied_keeps, joins}
use Rattle.sigsem.proofs.sems.Sems.add_task.Goals as goal

pub copy_sequences-requires-clause-headers : goal.copy_sequences-requires-clause-headers
copy_sequences-requires-clause-headers g c = c.requires.sems ∙ sym (ap (λ (m : Semaphores). length m.queues) c.self.view_is)

pub copy_sequences-requires-clause-nodes : goal.copy_sequences-requires-clause-nodes
copy_sequences-requires-clause-nodes g c =
    let count = ap length c.in_ok-waiters.ensures.unlinked ∙ length-replicate (c.args.tasks + 1) None in
    let own = ap (λ (m : Semaphores). length m.places) c.self.view_is in
    omega (arith, count, own, c.requires.tasks)

pub invariant_of-self : goal.invariant_of-self
invariant_of-self g c = copied_keeps _ _ c.self.invariant c.copy_sequences.ensures.sequences c.copy_sequences.ensures.homes

pub returns-clause-added : goal.returns-clause-added
returns-clause-added g c =
    let own : Semaphores = record { sems = c.self.inside.sems; queues = g.S.ListSpace.sequences c.self.inside.waiters; places = g.S.ListSpace.homes c.self.inside.waiters } in
    sym (joins own _ _ c.copy_sequences.ensures.sequences c.copy_sequences.ensures.homes) ∙ ap with_new_task c.self.view_is
