-- No semaphore begins there if the blocks have no number of one.
use Rattle.std.proofs.Common.{ap, is_some, sym, ◌∙◌}
use Rattle.execheap.proofs.{SemaphoreAlerts.semaphore_found, SemaphoreAlerts.semaphore_refused, Stepping.shape_lives}
use Rattle.execheap.specs.declared.tag.Kind.TheVariants as variant
use Rattle.execheap.specs.Table.{pool_of}
use Rattle.execheap.proofs.objects.Objects.semaphore_at.Goals as goal

pub returns-in-Some-clause-alert : goal.returns-in-Some-clause-alert
returns-in-Some-clause-alert g c = sym (semaphore_found c.args.self.now c.args.semaphore c.in-Some.n (sym c.in-Some.ensures.value))

pub returns-in-None-clause-alert : goal.returns-in-None-clause-alert
returns-in-None-clause-alert g c = sym (semaphore_refused c.args.self.now c.args.semaphore (sym c.in-None.ensures.value))

pub returns-in-Some-clause-live : goal.returns-in-Some-clause-live
returns-in-Some-clause-live g c =
    let s = c.args.self.now in
    sym (shape_lives (pool_of variant.Semaphore s.table) s.sems.sems (c.in-Some.ensures.known.sound.kept.in_step variant.Semaphore) c.in-Some.n)
    ∙ ap is_some c.in-Some.ensures.live
