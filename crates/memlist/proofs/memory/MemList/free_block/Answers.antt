-- The proof of `MemList::free_block`: frees the block that begins at an address, whatever its tag.
use Rattle.std.proofs.Common.{◌≡◌, List, true, arith, sym, ap, subst, ◌∙◌, IsSome}
use Rattle.memlist.specs.{Areas.Area, Blocks.block_at, Blocks.is_in, Choice.IsHome, Memory.Memory, Memory.without_block}
use Rattle.memlist.proofs.Memories.{home_live, home_within, read_at, found_home, kept_memory, memory_freed}
use Rattle.memlist.proofs.memory.MemList.free_block.Goals as goal

pub unwrap-place-requires : goal.unwrap-place-requires
unwrap-place-requires c =
    let home = subst (λ (areas : List Area). IsHome c.args.address areas c.home.result) c.deref.ensures.value c.home.ensures in
    let live = subst (λ (m : Memory). IsSome (block_at c.args.address m.blocks)) (sym c.self.view_is) c.requires in
    home_live c.self.inside.headers.items c.args.address c.home.result c.self.invariant live home

pub index_mut-requires : goal.index_mut-requires
index_mut-requires c =
    let home = subst (λ (areas : List Area). IsHome c.args.address areas c.home.result) c.deref.ensures.value c.home.ensures in
    let at = subst (λ o. IsHome c.args.address c.self.inside.headers.items o) c.unwrap-place.ensures home in
    omega (arith, home_within c.self.inside.headers.items c.unwrap-place.result c.args.address at)

pub free-requires : goal.free-requires
free-requires c =
    let home = subst (λ (areas : List Area). IsHome c.args.address areas c.home.result) c.deref.ensures.value c.home.ensures in
    let at = subst (λ o. IsHome c.args.address c.self.inside.headers.items o) c.unwrap-place.ensures home in
    let read = read_at (λ (area : Area). is_in area.region c.args.address ≡ true) c.self.inside.headers.items c.unwrap-place.result c.index_mut.result.now at c.index_mut.ensures.value in
    let live = subst (λ (m : Memory). IsSome (block_at c.args.address m.blocks)) (sym c.self.view_is) c.requires in
    subst (λ o. IsSome o) (found_home c.self.inside.headers.items c.unwrap-place.result c.index_mut.result.now c.args.address c.self.invariant read.0 read.1) live

pub invariant_of-self : goal.invariant_of-self
invariant_of-self c =
    let home = subst (λ (areas : List Area). IsHome c.args.address areas c.home.result) c.deref.ensures.value c.home.ensures in
    let at = subst (λ o. IsHome c.args.address c.self.inside.headers.items o) c.unwrap-place.ensures home in
    let read = read_at (λ (area : Area). is_in area.region c.args.address ≡ true) c.self.inside.headers.items c.unwrap-place.result c.index_mut.result.now at c.index_mut.ensures.value in
    kept_memory c.self.inside.headers.items c.unwrap-place.result c.index_mut.result.now c.free.new.self c.self.invariant read.0 (ap (λ (area : Area). area.region) c.free.ensures.freed) c.free.ensures.laid

pub returns : goal.returns
returns c =
    let home = subst (λ (areas : List Area). IsHome c.args.address areas c.home.result) c.deref.ensures.value c.home.ensures in
    let at = subst (λ o. IsHome c.args.address c.self.inside.headers.items o) c.unwrap-place.ensures home in
    let read = read_at (λ (area : Area). is_in area.region c.args.address ≡ true) c.self.inside.headers.items c.unwrap-place.result c.index_mut.result.now at c.index_mut.ensures.value in
    memory_freed c.self.inside.headers.items c.unwrap-place.result c.index_mut.result.now c.free.new.self c.args.address c.self.invariant read.0 read.1 c.free.ensures.freed
    ∙ ap (without_block c.args.address) c.self.view_is
