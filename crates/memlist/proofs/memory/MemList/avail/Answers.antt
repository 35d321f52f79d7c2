-- The proof of `MemList::avail`: the bytes that are free in the regions that have each of bits 0 to 2 that is asked
-- for; with bit 17 (MEMF_LARGEST) the size of their greatest gap, with bit 19 (MEMF_TOTAL) their installed size.
use Rattle.std.proofs.Common.{List, arith, sym, ap, ◌∙◌}
use Rattle.memlist.specs.{Areas.Area, Choice.free_of, Choice.installed_of, Choice.largest_of, Fit.avail, Memory.Memory}
use Rattle.memlist.proofs.Memories.{free_bound_of, installed_bound_of, limit_memory, avail_largest, avail_installed, avail_free, asked, unasked}
use Rattle.memlist.proofs.memory.MemList.avail.Goals as goal

pub installed_of-requires : goal.installed_of-requires
installed_of-requires c =
    let same = ap (λ (areas : List Area). installed_of c.args.reqs areas) c.deref-then-reqs-ne0-2.ensures.value in
    omega (arith, same, installed_bound_of c.args.reqs c.self.inside.headers.items, limit_memory c.self.inside.headers.items c.self.invariant)

pub free_of-requires : goal.free_of-requires
free_of-requires c =
    let same = ap (λ (areas : List Area). free_of c.args.reqs areas) c.deref-else-reqs-ne0-2.ensures.value in
    omega (arith, same, free_bound_of c.args.reqs c.self.inside.headers.items c.self.invariant.laid, limit_memory c.self.inside.headers.items c.self.invariant)

pub returns-then-reqs-ne0 : goal.returns-then-reqs-ne0
returns-then-reqs-ne0 c =
    c.largest_of.ensures ∙ ap (λ (areas : List Area). largest_of c.args.reqs areas) c.deref.ensures.value
    ∙ sym (avail_largest c.self.inside.headers.items c.args.reqs c.self.invariant (asked c.args.reqs 17 c.if-reqs-ne0.true))
    ∙ ap (λ (m : Memory). avail m.regions m.blocks c.args.reqs) c.self.view_is

pub returns-then-reqs-ne0-2 : goal.returns-then-reqs-ne0-2
returns-then-reqs-ne0-2 c =
    c.installed_of.ensures ∙ ap (λ (areas : List Area). installed_of c.args.reqs areas) c.deref-then-reqs-ne0-2.ensures.value
    ∙ sym (avail_installed c.self.inside.headers.items c.args.reqs (unasked c.args.reqs 17 c.if-reqs-ne0.false) (asked c.args.reqs 19 c.if-reqs-ne0-2.true))
    ∙ ap (λ (m : Memory). avail m.regions m.blocks c.args.reqs) c.self.view_is

pub returns-else-reqs-ne0-2 : goal.returns-else-reqs-ne0-2
returns-else-reqs-ne0-2 c =
    c.free_of.ensures ∙ ap (λ (areas : List Area). free_of c.args.reqs areas) c.deref-else-reqs-ne0-2.ensures.value
    ∙ sym (avail_free c.self.inside.headers.items c.args.reqs c.self.invariant (unasked c.args.reqs 17 c.if-reqs-ne0.false) (unasked c.args.reqs 19 c.if-reqs-ne0-2.false))
    ∙ ap (λ (m : Memory). avail m.regions m.blocks c.args.reqs) c.self.view_is
