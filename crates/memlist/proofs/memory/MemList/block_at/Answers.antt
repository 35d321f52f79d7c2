-- The proof of `MemList::block_at`: the size, as it was rounded, and the tag of the block that begins at an address.
use Rattle.std.proofs.Common.{◌≡◌, List, true, sym, ap, subst, ◌∙◌, Some, None}
use Rattle.memlist.specs.{Areas.Area, Blocks.block_at, Blocks.is_in, Choice.IsHome, Memory.Memory}
use Rattle.memlist.proofs.Memories.{read_at, found_home, found_homeless}
use Rattle.memlist.proofs.memory.MemList.block_at.Goals as goal

pub returns-in-Some : goal.returns-in-Some
returns-in-Some c =
    let home = subst (λ (areas : List Area). IsHome c.args.address areas (Some c.in-Some.place)) c.deref.ensures.value c.in-Some.ensures in
    let read = read_at (λ (area : Area). is_in area.region c.args.address ≡ true) c.self.inside.headers.items c.in-Some.place c.index.result.now home c.index.ensures in
    c.block_at.ensures
    ∙ sym (found_home c.self.inside.headers.items c.in-Some.place c.index.result.now c.args.address c.self.invariant read.0 read.1)
    ∙ ap (λ (m : Memory). block_at c.args.address m.blocks) c.self.view_is

pub returns-in-None : goal.returns-in-None
returns-in-None c =
    let home = subst (λ (areas : List Area). IsHome c.args.address areas None) c.deref.ensures.value c.in-None.ensures in
    sym (found_homeless c.self.inside.headers.items c.args.address c.self.invariant home) ∙ ap (λ (m : Memory). block_at c.args.address m.blocks) c.self.view_is
