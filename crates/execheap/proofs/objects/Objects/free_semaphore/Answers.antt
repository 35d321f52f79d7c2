-- The object is freed if it is shown.
use Rattle.std.proofs.Common.{ap, ◌∙◌}
use Rattle.execmodel.specs.Memory.{freed}
use Rattle.execheap.specs.declared.tag.Kind.TheVariants as variant
use Rattle.execheap.specs.Numbered.{shown_memory}
use Rattle.execheap.proofs.{KeptSemaphores.not_refused, Made.freed_at, Semaphores.sem_freed_kept, Semaphores.sem_freed_shown, Semaphores.sem_lives}
use Rattle.execheap.proofs.objects.Objects.free_semaphore.Goals as goal

pub free-requires-2 : goal.free-requires-2
free-requires-2 g c =
    let free = c.free.ensures in
    let gone = freed_at c.self.view_is c.self.invariant free.sound free.memory variant.Semaphore c.args.n c.args.address c.free.new.self c.requires.live free.next in
    sem_lives c.self.inside.sems gone

pub invariant_of-self : goal.invariant_of-self
invariant_of-self g c =
    let free = c.free.ensures in
    let gone = freed_at c.self.view_is c.self.invariant free.sound free.memory variant.Semaphore c.args.n c.args.address c.free.new.self c.requires.live free.next in
    sem_freed_kept c.free-2.new.self gone (not_refused _ _ _ _ _ _ _ c.free-2.ensures.answer c.unwrap.ensures c.free-2.ensures.next)

pub returns : goal.returns
returns g c =
    let free = c.free.ensures in
    let gone = freed_at c.self.view_is c.self.invariant free.sound free.memory variant.Semaphore c.args.n c.args.address c.free.new.self c.requires.live free.next in
    sem_freed_shown c.free-2.new.self gone (not_refused _ _ _ _ _ _ _ c.free-2.ensures.answer c.unwrap.ensures c.free-2.ensures.next)
    ∙ ap (λ s. freed c.args.address (shown_memory s)) c.self.view_is
