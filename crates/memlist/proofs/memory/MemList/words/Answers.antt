-- The proof of `MemList::words`: the words of a region, named by its place in the machine's file: word i represents the
-- region's base plus 4 times i.
use Rattle.std.proofs.Common.{arith, sym, subst, length, ◌<◌, IfSome, slice_get}
use Rattle.memlist.specs.{Areas.IsFreeChain, Blocks.gaps, Memory.Memory}
use Rattle.memlist.proofs.Memories.{free_chain, read_area, within_areas}
use Rattle.memlist.proofs.memory.MemList.words.Goals as goal

pub index-requires : goal.index-requires
index-requires c =
    let within = subst (λ (m : Memory). c.args.k < length m.regions) (sym c.self.view_is) c.requires in
    omega (arith, within_areas c.self.inside.headers.items c.args.k within)

pub returns : goal.returns
returns c =
    let within = subst (λ (m : Memory). c.args.k < length m.regions) (sym c.self.view_is) c.requires in
    let at = read_area c.self.inside.headers.items c.args.k c.index.result.now within c.index.ensures in
    subst (λ (m : Memory). IfSome (slice_get m.regions c.args.k) (λ region. IsFreeChain region c.words.result.now (gaps region m.blocks))) c.self.view_is
    (free_chain c.self.inside.headers.items c.args.k c.index.result.now c.words.result.now c.self.invariant at c.words.ensures.len c.words.ensures.linked)
