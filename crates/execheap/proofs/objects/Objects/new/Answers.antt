-- Nothing lives, no block is allocated, and each request has its message.
use Rattle.std.proofs.Common.{map, refl}
use Rattle.execlib.specs.Libraries.{description_of}
use Rattle.execheap.specs.Changes.{unused}
use Rattle.execheap.proofs.Empty.{kept_unused}
use Rattle.execheap.proofs.objects.Objects.new.Goals as goal

pub invariant_of-result : goal.invariant_of-result
invariant_of-result g c =
    let lists = c.in_ok-space.ensures in
    let waits = c.in_ok-held.ensures in
    rw (
      c.in_ok-table.ensures,
      c.in_ok-ports.ensures,
      waits.requests,
      waits.timer,
      lists.empty,
      lists.unlinked,
      lists.blank,
      lists.semaphores,
    )
    (kept_unused c.args.regions.now c.args.pool c.args.tasks (map description_of c.args.libraries.now) c.args.asks c.args.tick_micros)

pub returns : goal.returns
returns g c =
    let lists = c.in_ok-space.ensures in
    let waits = c.in_ok-held.ensures in
    rw (
      c.in_ok-table.ensures,
      c.in_ok-ports.ensures,
      waits.requests,
      waits.timer,
      lists.empty,
      lists.unlinked,
      lists.blank,
      lists.semaphores,
    )
    (refl {a = unused c.args.regions.now c.args.pool c.args.tasks (map description_of c.args.libraries.now) c.args.asks c.args.tick_micros})
