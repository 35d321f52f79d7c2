-- The first node of the list that is shown is answered, and leaves it.
use Rattle.std.proofs.Common.{ap, drop, sym, ◌∙◌, option_map}
use Rattle.execlist.specs.{Order.first, Lists.sequence}
use Rattle.execmodel.specs.{State.Memory, State.on_heap, Lists.first_of, Lists.or_none, Lists.removed_head}
use Rattle.execheap.specs.declared.tag.Kind.TheVariants as variant
use Rattle.execheap.specs.{Table.Tabled, Table.slots_of, Numbered.Numbered, Numbered.address_in, Numbered.shown_memory, Numbered.places}
use Rattle.execheap.proofs.Linking.{unlinked_table, first_shown, head_taken_shown}
use Rattle.execheap.proofs.heap.Heap.rem_head.Goals as goal

pub returns-clause-answer : goal.returns-clause-answer
returns-clause-answer g c =
    let f = c.in_ok-h.ensures.known in
    let s = c.self.inside.objects in
    c.address_or_0.ensures
    ∙ ap (λ (x : Numbered). or_none (option_map (address_in (places variant.Node x)) c.rem_head-n.result)) c.rem_head-n.ensures.next
    ∙ ap (λ (t : Tabled). or_none (option_map (address_in (slots_of variant.Node t)) c.rem_head-n.result)) (unlinked_table c.in_ok-h.h (first (sequence s.sequences c.in_ok-h.h)) (drop 1 (sequence s.sequences c.in_ok-h.h)) s)
    ∙ ap (λ n. or_none (option_map (address_in (places variant.Node s)) n)) c.rem_head-n.ensures.value
    ∙ sym (first_shown f.sound f.space c.in_ok-h.h c.args.list c.in_ok-h.ensures.found) ∙ ap (λ (m : Memory). first_of c.args.list m.heap) c.self.view_is

pub returns-clause-next : goal.returns-clause-next
returns-clause-next g c =
    let f = c.in_ok-h.ensures.known in
    ap shown_memory c.rem_head-n.ensures.next ∙ head_taken_shown f.sound f.space f.memory c.in_ok-h.h c.args.list c.in_ok-h.ensures.found
    ∙ ap (on_heap (removed_head c.args.list)) c.self.view_is
