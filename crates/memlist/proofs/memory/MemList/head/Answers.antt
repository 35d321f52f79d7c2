-- The proof of `MemList::head`: where the first free chunk of a region begins, or 0 if nothing of it is free.
use Rattle.std.proofs.Common.{arith, sym, subst, length, ◌<◌, ◌≡◌, IfSome, slice_get}
use Rattle.memlist.specs.{Blocks.gaps, Chain.first_or, Memory.Memory}
use Rattle.memlist.proofs.Memories.{free_head, read_area, within_areas}
use Rattle.memlist.proofs.memory.MemList.head.Goals as goal

pub index-requires : goal.index-requires
index-requires c =
    let within = subst (λ (m : Memory). c.args.k < length m.regions) (sym c.self.view_is) c.requires in
    omega (arith, within_areas c.self.inside.headers.items c.args.k within)

pub returns : goal.returns
returns c =
    let within = subst (λ (m : Memory). c.args.k < length m.regions) (sym c.self.view_is) c.requires in
    let at = read_area c.self.inside.headers.items c.args.k c.index.result.now within c.index.ensures in
    subst (λ (m : Memory). IfSome (slice_get m.regions c.args.k) (λ region. c.head.result ≡ first_or 0 (gaps region m.blocks))) c.self.view_is
    (free_head c.self.inside.headers.items c.args.k c.head.result c.index.result.now c.self.invariant at c.head.ensures)
