-- The last node of the list that is shown is answered, and leaves it.
use Rattle.std.proofs.Common.{ap, length, sym, take, ◌-◌, ◌∙◌, option_map}
use Rattle.execlist.specs.Lists.{last, sequence}
use Rattle.execmodel.specs.{State.Memory, State.on_heap, Lists.last_of, Lists.or_none, Lists.removed_tail}
use Rattle.execheap.specs.declared.tag.Kind.TheVariants as variant
use Rattle.execheap.specs.{Table.Tabled, Table.slots_of, Numbered.Numbered, Numbered.address_in, Numbered.shown_memory, Numbered.places}
use Rattle.execheap.proofs.Linking.{unlinked_table, last_shown, tail_taken_shown}
use Rattle.execheap.proofs.heap.Heap.rem_tail.Goals as goal

pub returns-clause-answer : goal.returns-clause-answer
returns-clause-answer g c =
    let f = c.in_ok-h.ensures.known in
    let s = c.self.inside.objects in
    c.address_or_0.ensures
    ∙ ap (λ (x : Numbered). or_none (option_map (address_in (places variant.Node x)) c.rem_tail-n.result)) c.rem_tail-n.ensures.next
    ∙ ap (λ (t : Tabled). or_none (option_map (address_in (slots_of variant.Node t)) c.rem_tail-n.result)) (unlinked_table c.in_ok-h.h (last (sequence s.sequences c.in_ok-h.h)) (take (length (sequence s.sequences c.in_ok-h.h) - 1) (sequence s.sequences c.in_ok-h.h)) s)
    ∙ ap (λ n. or_none (option_map (address_in (places variant.Node s)) n)) c.rem_tail-n.ensures.value
    ∙ sym (last_shown f.sound f.space c.in_ok-h.h c.args.list c.in_ok-h.ensures.found) ∙ ap (λ (m : Memory). last_of c.args.list m.heap) c.self.view_is

pub returns-clause-next : goal.returns-clause-next
returns-clause-next g c =
    let f = c.in_ok-h.ensures.known in
    ap shown_memory c.rem_tail-n.ensures.next ∙ tail_taken_shown f.sound f.space f.memory c.in_ok-h.h c.args.list c.in_ok-h.ensures.found
    ∙ ap (on_heap (removed_tail c.args.list)) c.self.view_is
