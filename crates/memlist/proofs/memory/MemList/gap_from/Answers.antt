-- The gaps of the region at a place are those of its header.
use Rattle.std.proofs.Common.{◌≡◌, ◌≤◌, ap, sym, ◌∙◌, subst, length, List, Some, slice_get}
use Rattle.std.proofs.lemmas.Option.{slice_get-get_or}
use Rattle.memlist.specs.{Areas.Area, Memory.Memory, Readers.gap_from, Readers.gaps_in}
use Rattle.memlist.proofs.Readers.{gaps_at, gaps_past}
use Rattle.memlist.proofs.memory.MemList.gap_from.Goals as goal

pub returns-in-Some : goal.returns-in-Some
returns-in-Some c =
    let found = c.in-Some.ensures.lookup.3 in
    let at : slice_get c.self.inside.headers.items c.args.k ≡ Some c.in-Some.header.now =
    ap (λ (areas : List Area). slice_get areas c.args.k) (sym c.deref.ensures.value)
    ∙ slice_get-get_or c.deref.result.now c.args.k c.in-Some.header.now found.0 ∙ ap Some (sym (found.1 c.in-Some.header.now)) in
    c.gap_from.ensures ∙ ap (gap_from c.args.address) (sym (gaps_at c.self.inside.headers.items c.args.k c.in-Some.header.now c.self.invariant at))
    ∙ ap (λ (m : Memory). gap_from c.args.address (gaps_in (slice_get m.regions c.args.k) m.blocks)) c.self.view_is

pub returns-in-None : goal.returns-in-None
returns-in-None c =
    let far = subst (λ (areas : List Area). length areas ≤ c.args.k) c.deref.ensures.value c.in-None.ensures.lookup.3 in
    ap (gap_from c.args.address) (sym (gaps_past c.self.inside.headers.items c.args.k far))
    ∙ ap (λ (m : Memory). gap_from c.args.address (gaps_in (slice_get m.regions c.args.k) m.blocks)) c.self.view_is
