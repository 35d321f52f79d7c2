-- The tasks that wait for the semaphore that begins at an address; none if none does.
use Rattle.std.proofs.Common.{List, ℕ, ap, is_some, sym, ◌∙◌}
use Rattle.execlist.specs.{Lists.part_from, Order.first}
use Rattle.execheap.specs.declared.tag.Kind.TheVariants as variant
use Rattle.execheap.specs.Table.{pool_of}
use Rattle.execheap.proofs.{Queues.no_semaphore, Shown.waiters_shown, Stepping.shape_lives}
use Rattle.execheap.proofs.objects.Objects.waiter_after.Goals as goal

pub waiter_in-requires : goal.waiter_in-requires
waiter_in-requires g c =
    let s = c.args.self.now in
    sym (shape_lives (pool_of variant.Semaphore s.table) s.sems.sems (c.in-Some.ensures.known.sound.kept.in_step variant.Semaphore) c.in-Some.n)
    ∙ ap is_some c.in-Some.ensures.live

pub returns-in-None : goal.returns-in-None
returns-in-None g c = sym (no_semaphore c.args.self.now c.args.semaphore c.args.after (sym c.in-None.ensures.value))

pub returns-in-Some : goal.returns-in-Some
returns-in-Some g c =
    c.waiter_in.ensures
    ∙ ap (λ (all : List ℕ). first (part_from c.args.after all)) (sym (waiters_shown c.args.self.now c.args.semaphore c.in-Some.n (sym c.in-Some.ensures.value)))
